use Rattle.std.proofs.Common.{◌≡◌, [], ◌∷◌, ◌∙◌, false, length, nat_eq, ap, sym, arith}
use Rattle.std.proofs.lemmas.Bool.Decides.{nat_tests}
use Rattle.std.specs.FinSet.{from_list}
use Rattle.vipr_table.specs.IndexList.{listed_set}
use Rattle.vipr_table.proofs.ListsLemmas.{listed_empty}
use Rattle.vipr_table.proofs.assumptions.Assumptions.is_empty.Goals as goal

pub returns-in-One : goal.returns-in-One
returns-in-One c =
    let some : false ≡ nat_eq 1 0 = grind (arith, nat_tests) in
    listed_empty _ (c.in-One.field-0 ∷ []) false (sym (ap listed_set c.in-One.is) ∙ c.self.view_is) some

pub returns-in-Many : goal.returns-in-Many
returns-in-Many c =
    let e = c.is_empty.ensures in
    let test : c.is_empty.result ≡ nat_eq (length c.front_of.result.now) 0 = grind (arith, nat_tests) in
    listed_empty _ c.front_of.result.now _ (ap from_list c.front_of.ensures
    ∙ sym (ap listed_set c.in-Many.is) ∙ c.self.view_is) test
