use Rattle.std.proofs.Common.{◌∙◌, ap, sym}
use Rattle.std.proofs.lemmas.Result.{MatchResult-weaker}
use Rattle.std.specs.FinSet.{union}
use Rattle.vipr_table.proofs.SetLemmas.{union_same}
use Rattle.vipr_table.proofs.assumptions.pages.union_of.Goals as goal

pub returns-then-is_one : goal.returns-then-is_one
returns-then-is_one c =
    let same = union_same c.args.page.now ∙ ap (union c.args.page.now) (c.is_one.ensures c.if-is_one.true) in
    MatchResult-weaker c.clone.result c.clone.ensures.cases (λ s e. e ∙ same) (λ _ _. tt)

pub returns-then-is_same : goal.returns-then-is_same
returns-then-is_same c =
    let equal = sym c.as_ref.ensures ∙ c.is_same.ensures c.if-is_same.true ∙ c.as_ref-2.ensures in
    let same = union_same c.args.page.now ∙ ap (union c.args.page.now) equal in
    MatchResult-weaker c.clone-then-is_same.result c.clone-then-is_same.ensures.cases
    (λ s e. e ∙ same) (λ _ _. tt)
