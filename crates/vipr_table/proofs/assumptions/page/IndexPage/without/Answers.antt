use Rattle.std.proofs.Common.{◌∙◌, ap}
use Rattle.std.specs.FinSet.{remove}
use Rattle.vipr_table.specs.Bits.{page_set}
use Rattle.vipr_table.proofs.assumptions.page.IndexPage.without.Goals as goal

pub returns : goal.returns
returns c =
    c.in_ok-words.ensures.set
    ∙ ap (λ l. remove (page_set c.self.inside.first l) c.args.index) c.as_slice.ensures.value
    ∙ ap (λ s. remove s c.args.index) c.self.view_is
