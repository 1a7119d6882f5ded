use Rattle.std.proofs.Common.{◌≡◌, length}
use Rattle.std.specs.FinSet.{union}
use Rattle.vipr_table.specs.Sets.{union_of_all}
use Rattle.vipr_table.proofs.assumptions.union.with_below.Given as goal

abbrev pub invariant-loop-top : goal.invariant-loop-top
invariant-loop-top l = union (union_of_all l.below.items) l.all ≡ union (union_of_all l.fn.below.items) l.fn.last

abbrev pub decreases-loop-top : goal.decreases-loop-top
decreases-loop-top l = length l.below.items
