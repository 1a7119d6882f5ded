use Rattle.std.proofs.Common.{◌≡◌, take}
use Rattle.std.specs.FinSet.{remove}
use Rattle.vipr_table.specs.Sets.{union_of_all}
use Rattle.vipr_table.proofs.assumptions.pages.pages_without.Given as goal

abbrev pub invariant-loop-page : goal.invariant-loop-page
invariant-loop-page l = union_of_all l.rest.items ≡ remove (union_of_all (take l.page-index l.pages)) l.index
