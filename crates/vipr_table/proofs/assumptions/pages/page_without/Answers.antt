use Rattle.std.proofs.Common.{◌∙◌, ap, sym}
use Rattle.std.proofs.lemmas.Result.{MatchResult-weaker}
use Rattle.std.specs.FinSet.{contains}
use Rattle.vipr_table.proofs.SetLemmas.{remove_absent}
use Rattle.vipr_table.proofs.assumptions.pages.page_without.Goals as goal

pub returns-then-not-contains : goal.returns-then-not-contains
returns-then-not-contains c =
    let absent = ap (λ s. contains s c.args.index) (sym c.as_ref.ensures) ∙ sym c.contains.ensures
    ∙ c.if-not-contains.true in
    MatchResult-weaker c.clone.result c.clone.ensures.cases
    (λ s e. e ∙ remove_absent c.args.page.now c.args.index absent) (λ _ _. tt)
