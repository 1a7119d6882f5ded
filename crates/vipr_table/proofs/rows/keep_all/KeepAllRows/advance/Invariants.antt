use Rattle.std.proofs.Common.{length}
use Rattle.vipr_table.specs.{Expiry.dues, KeepAll.IsKept, KeepAll.entries_not_forgotten}
use Rattle.vipr_table.proofs.ExpiryOrderLemmas.{AdvancesTo}
use Rattle.vipr_table.proofs.rows.keep_all.KeepAllRows.advance.Given as goal

abbrev pub invariant-loop-index : goal.invariant-loop-index
invariant-loop-index l =
    let now = l.self-inside in
    record {
      kept : IsKept now.first now.next now.kept.items now.held (dues now.order.heap);
      advances : AdvancesTo l.fn.self now.first now.next
          (entries_not_forgotten now.first now.kept.items) (dues now.order.heap);
    }

abbrev pub decreases-loop-index : goal.decreases-loop-index
decreases-loop-index l = length (dues l.self-inside.order.heap)
