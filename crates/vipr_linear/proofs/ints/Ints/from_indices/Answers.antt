use Rattle.std.proofs.Common.{subst}
use Rattle.vipr_linear.proofs.Sets.{deduped_rises, deduped_seen}
use Rattle.vipr_linear.specs.Rounding.{MarksEach}
use Rattle.vipr_linear.proofs.ints.Ints.from_indices.Goals as goal

pub invariant_of-result : goal.invariant_of-result
invariant_of-result c = record {
  rising = deduped_rises _ _ c.sort_unstable.ensures.sorted c.dedup.ensures.filtered;
  marked = subst (λ is. MarksEach is c.in_ok-marks_of.field-0.items) c.deref.ensures.value c.in_ok-marks_of.ensures;
  whole = tt;
}

pub returns : goal.returns
returns c = deduped_seen _ _ _ c.sort_unstable.ensures.permutation c.dedup.ensures.filtered
