use Rattle.std.proofs.Common.{◌∙◌, ap}
use Rattle.std.specs.FinSet.{remove}
use Rattle.vipr_table.specs.Sets.{union_of_all}
use Rattle.vipr_table.proofs.assumptions.pages.IndexPages.without.Goals as goal

pub returns : goal.returns
returns c =
    c.in_ok-pages.ensures
    ∙ ap (λ l. remove (union_of_all l) c.args.index) c.as_slice.ensures.value
    ∙ ap (λ s. remove s c.args.index) c.self.view_is
