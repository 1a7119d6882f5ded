use Rattle.std.proofs.Common.{[], ◌∷◌, ◌∙◌, ap, sym, subst, refl}
use Rattle.std.specs.FinSet.{from_list, remove}
use Rattle.vipr_table.specs.{IndexList.listed_set, IndexList.Rises, Rising.IsRising}
use Rattle.vipr_table.proofs.ListsLemmas.{last_out_seen}
use Rattle.vipr_table.proofs.assumptions.Assumptions.without_last.Goals as goal

pub returns-in-One : goal.returns-in-One
returns-in-One c =
    let k = c.args.index in
    last_out_seen k (k ∷ []) []
    (subst (λ x. IsRising (x ∷ [])) c.if-only-index.true
    (subst Rises c.in-One.is c.self.invariant)) refl
    ∙ ap (λ s. remove s k) (ap (λ x. from_list (x ∷ [])) (sym c.if-only-index.true)
    ∙ sym (ap listed_set c.in-One.is) ∙ c.self.view_is)
