use Rattle.std.proofs.Common.{◌∙◌, ap₂}
use Rattle.std.specs.FinSet.{union}
use Rattle.vipr_table.specs.Sets.{union_of_all}
use Rattle.vipr_table.proofs.assumptions.pages.IndexPages.union.Goals as goal

pub returns : goal.returns
returns c =
    c.in_ok-pages.ensures
    ∙ ap₂ (λ a b. union (union_of_all a) (union_of_all b)) c.as_slice.ensures.value c.as_slice-2.ensures.value
    ∙ ap₂ union c.self.view_is c.other.view_is
