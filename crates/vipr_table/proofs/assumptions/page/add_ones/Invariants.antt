use Rattle.std.proofs.Common.{◌≡◌, [], ◌∷◌}
use Rattle.std.specs.FinSet.{from_list, union}
use Rattle.vipr_table.specs.Bits.{page_set}
use Rattle.vipr_table.proofs.assumptions.page.add_ones.Given as goal

abbrev pub invariant-loop-left : goal.invariant-loop-left
invariant-loop-left l =
    union (from_list l.indices.items) (page_set l.number (l.left ∷ []))
    ≡ union (from_list l.fn.indices.items) (page_set l.number (l.word ∷ []))

abbrev pub decreases-loop-left : goal.decreases-loop-left
decreases-loop-left l = l.left
