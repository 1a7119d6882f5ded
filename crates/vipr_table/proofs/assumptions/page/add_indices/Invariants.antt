use Rattle.std.proofs.Common.{◌≡◌, take}
use Rattle.std.specs.FinSet.{from_list, union}
use Rattle.vipr_table.specs.Bits.{page_set}
use Rattle.vipr_table.proofs.assumptions.page.add_indices.Given as goal

abbrev pub invariant-loop-place : goal.invariant-loop-place
invariant-loop-place l =
    from_list l.indices.items ≡ union (from_list l.fn.indices.items) (page_set l.first (take l.place l.words))
