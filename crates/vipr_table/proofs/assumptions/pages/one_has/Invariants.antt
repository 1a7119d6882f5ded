use Rattle.std.proofs.Common.{◌≡◌, false, take}
use Rattle.std.specs.FinSet.{contains}
use Rattle.vipr_table.specs.Sets.{union_of_all}
use Rattle.vipr_table.proofs.assumptions.pages.one_has.Given as goal

abbrev pub invariant-loop-page : goal.invariant-loop-page
invariant-loop-page l = contains (union_of_all (take l.page-index l.pages)) l.index ≡ false
