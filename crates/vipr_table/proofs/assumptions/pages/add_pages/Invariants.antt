use Rattle.std.proofs.Common.{◌≡◌, take}
use Rattle.std.specs.FinSet.{union}
use Rattle.vipr_table.specs.Sets.{union_of_all}
use Rattle.vipr_table.proofs.assumptions.pages.add_pages.Given as goal

abbrev pub invariant-loop-page : goal.invariant-loop-page
invariant-loop-page l = union_of_all l.pages.items ≡ union (union_of_all l.initial.pages.items)
    (union_of_all (take l.page-index l.more))
