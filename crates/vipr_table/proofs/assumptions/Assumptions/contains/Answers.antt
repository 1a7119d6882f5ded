use Rattle.std.proofs.Common.{[], ◌∷◌, ◌∙◌, ap, sym}
use Rattle.std.specs.FinSet.{contains, contains-empty, contains-from_list_nat, from_list}
use Rattle.std.specs.Ordering.{nat_cmp}
use Rattle.vipr_table.specs.IndexList.{listed_set}
use Rattle.vipr_table.proofs.SetLemmas.{or_false}
use Rattle.vipr_table.proofs.assumptions.Assumptions.contains.Goals as goal

pub returns-in-Nothing : goal.returns-in-Nothing
returns-in-Nothing c =
    sym (contains-empty nat_cmp c.args.index)
    ∙ ap (λ s. contains s c.args.index) (sym (ap listed_set c.in-Nothing.is) ∙ c.self.view_is)

pub returns-in-One : goal.returns-in-One
returns-in-One c =
    sym (contains-from_list_nat (c.in-One.only ∷ []) c.args.index ∙ or_false _)
    ∙ ap (λ s. contains s c.args.index) (sym (ap listed_set c.in-One.is) ∙ c.self.view_is)

pub returns-in-Many : goal.returns-in-Many
returns-in-Many c =
    c.is_in.ensures ∙ sym (contains-from_list_nat c.front_of.result.now c.args.index)
    ∙ ap (λ s. contains s c.args.index) (ap from_list c.front_of.ensures
    ∙ sym (ap listed_set c.in-Many.is) ∙ c.self.view_is)
