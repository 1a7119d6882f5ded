use Rattle.std.proofs.Common.{◌∙◌, ap}
use Rattle.std.specs.FinSet.{contains}
use Rattle.vipr_table.specs.Bits.{page_set}
use Rattle.vipr_table.proofs.assumptions.page.IndexPage.contains.Goals as goal

pub returns : goal.returns
returns c =
    c.has.ensures
    ∙ ap (λ l. contains (page_set c.self.inside.first l) c.args.index) c.as_slice.ensures.value
    ∙ ap (λ s. contains s c.args.index) c.self.view_is
