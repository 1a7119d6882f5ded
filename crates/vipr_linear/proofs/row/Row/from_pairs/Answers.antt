use Rattle.std.proofs.lemmas.List.Sorted.{IsPermutation-sym}
use Rattle.vipr_linear.proofs.Rows.{row_kept, row_seen}
use Rattle.vipr_linear.proofs.row.Row.from_pairs.Goals as goal

pub invariant_of-result : goal.invariant_of-result
invariant_of-result c =
    record {
      rising = rw c.drop_zeros.ensures.kept (row_kept _ c.in_ok-entries.ensures.rising);
      bounded = c.drop_zeros.ensures.bounded;
    }

pub returns-clause-row : goal.returns-clause-row
returns-clause-row c =
    rw c.drop_zeros.ensures.kept
    (row_seen _ _ c.in_ok-entries.ensures.permutation
    (IsPermutation-sym _ _ c.in_ok-entries.ensures.permutation) c.in_ok-entries.ensures.distinct
    c.in_ok-entries.ensures.rising)
