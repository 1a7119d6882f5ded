use Rattle.std.proofs.lemmas.List.Sorted.{IsPermutation-sym}
use Rattle.vipr_linear.specs.Row.{AreEntries}
use Rattle.vipr_linear.proofs.Rows.{row_kept, row_seen, entries_fit}
use Rattle.vipr_linear.proofs.row.Row.from_distinct.Goals as goal

kept : (c : goal.After-drop_zeros) → AreEntries c.drop_zeros.new.pairs.items
kept c = record {
  rising =
      rw c.drop_zeros.ensures.kept (row_kept _ c.distinct_in_order-entries.ensures.rising);
  bounded = c.drop_zeros.ensures.bounded;
}

pub invariant_of-result : goal.invariant_of-result
invariant_of-result c = kept c

pub returns-clause-row : goal.returns-clause-row
returns-clause-row c =
    let e = c.distinct_in_order-entries.ensures in
    rw c.drop_zeros.ensures.kept (row_seen _ _ e.permutation (IsPermutation-sym _ _ e.permutation) c.requires e.rising)

pub returns-clause-fits : goal.returns-clause-fits
returns-clause-fits c = entries_fit _ (kept c)
