use Rattle.std.proofs.Common.{length}
use Rattle.std.specs.FinMap.{from_entries}
use Rattle.vipr_table.specs.Expiry.{dues}
use Rattle.vipr_table.proofs.ExpiryOrderLemmas.{AdvancesTo}
use Rattle.vipr_table.proofs.rows.live_only.LiveOnlyRows.advance.Given as goal

abbrev pub invariant-loop-index : goal.invariant-loop-index
invariant-loop-index l =
    let now = l.self-inside in
    AdvancesTo l.fn.self now.first now.next (from_entries now.rows.entries) (dues now.order.heap)

abbrev pub decreases-loop-index : goal.decreases-loop-index
decreases-loop-index l = length (dues l.self-inside.order.heap)
