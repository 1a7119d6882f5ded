use Rattle.std.proofs.{Common.arith, lemmas.List.Sorted.length_permutation}
use Rattle.vipr_table.proofs.ExpiryOrderLemmas.{AdvancesTo-removed, advanced}
use Rattle.vipr_table.proofs.rows.live_only.LiveOnlyRows.advance.Goals as goal

pub loop-index-smaller : goal.loop-index-smaller
loop-index-smaller c =
    let shorter = length_permutation _ _ c.in-Some.ensures.some.2 in omega (arith, shorter)

pub loop-index-preserved : goal.loop-index-preserved
loop-index-preserved c =
    let removed = c.in-Some.ensures.some in
    rw c.forget.ensures (AdvancesTo-removed _ _ _ _ _ c.loop-index.invariant _ _ _ removed.2 removed.1)

pub returns : goal.returns
returns c = advanced _ _ _ _ _ c.loop-index.invariant c.in_default.ensures.none
