use Rattle.std.proofs.Common.{◌∙◌, ap, ap₂}
use Rattle.std.specs.FinSet.{union}
use Rattle.vipr_table.specs.Bits.{page_set}
use Rattle.vipr_table.proofs.assumptions.page.IndexPage.union.Goals as goal

pub returns : goal.returns
returns c =
    c.of.ensures
    ∙ ap (λ f. page_set f c.in_ok-words.words.items) c.min.ensures
    ∙ c.in_ok-words.ensures.set
    ∙ ap₂ (λ a b. union (page_set c.self.inside.first a) (page_set c.other.inside.first b))
    c.as_slice.ensures.value c.as_slice-2.ensures.value
    ∙ ap₂ union c.self.view_is c.other.view_is
