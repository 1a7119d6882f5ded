use Rattle.std.proofs.Common.{◌≡◌, take}
use Rattle.std.specs.FinSet.{empty}
use Rattle.vipr_table.specs.Sets.{union_of_all}
use Rattle.vipr_table.proofs.assumptions.pages.are_empty.Given as goal

abbrev pub invariant-loop-page : goal.invariant-loop-page
invariant-loop-page l = union_of_all (take l.page-index l.pages) ≡ empty
