use Rattle.std.proofs.Common.{ℕ, ◌<◌, slice_index_or}
use Rattle.vipr_spec.specs.{Constraint.Compares, Fraction.zero_ℚ}
use Rattle.vipr_rules.specs.Columns.{nth, given_of}
use Rattle.vipr_rules.proofs.columns.all_true.Given as goal

abbrev pub invariant-loop-index : goal.invariant-loop-index
invariant-loop-index l =
    (k : ℕ) → k < l.index-index
    → Compares (nth (given_of l.cons) (slice_index_or l.index-items k 0)).sense
    (slice_index_or l.sums (slice_index_or l.index-items k 0) zero_ℚ)
    (nth (given_of l.cons) (slice_index_or l.index-items k 0)).bound
