use Rattle.std.proofs.{Common.arith, lemmas.List.Sorted.length_permutation}
use Rattle.vipr_table.proofs.ExpiryOrderLemmas.{AdvancesTo-removed, advanced}
use Rattle.vipr_table.proofs.KeepAllLemmas.{due_begins, due_within, forgotten, shown_held}
use Rattle.vipr_table.proofs.KeepAllLemmas.{IsKept-removed}
use Rattle.vipr_table.proofs.rows.keep_all.KeepAllRows.advance.Goals as goal

pub overflow_sub-index : goal.overflow_sub-index
overflow_sub-index c = due_begins _ _ _ _ _ c.loop-index.invariant.kept _ _ _ c.in-Some.ensures.some.2

pub forget-requires : goal.forget-requires
forget-requires c = due_within _ _ _ _ _ c.loop-index.invariant.kept _ _ _ c.in-Some.ensures.some.2

pub overflow_sub-self : goal.overflow_sub-self
overflow_sub-self c =
    rw c.forget.ensures.count
    (shown_held _ _ _ _ _ c.loop-index.invariant.kept _ _ _ c.in-Some.ensures.some.2)

pub loop-index-smaller : goal.loop-index-smaller
loop-index-smaller c =
    let shorter = length_permutation _ _ c.in-Some.ensures.some.2 in omega (arith, shorter)

pub loop-index-preserved : goal.loop-index-preserved
loop-index-preserved c =
    let inv = c.loop-index.invariant in
    let removed = c.in-Some.ensures.some in
    record {
      kept = rw (c.forget.ensures.items, c.forget.ensures.count) (IsKept-removed _ _ _ _ _ inv.kept _ _ _ removed.2);
      advances = rw (c.forget.ensures.items, forgotten _ _ _ _ _ inv.kept _ _ _ removed.2)
          (AdvancesTo-removed _ _ _ _ _ inv.advances _ _ _ removed.2 removed.1);
    }

pub returns : goal.returns
returns c = advanced _ _ _ _ _ c.loop-index.invariant.advances c.in_default.ensures.none
