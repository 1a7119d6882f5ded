use Rattle.std.proofs.Common.{◌∙◌, ap, sym}
use Rattle.vipr_table.specs.Bits.{page_set}
use Rattle.vipr_table.proofs.assumptions.page.IndexPage.is_empty.Goals as goal

pub returns : goal.returns
returns c =
    let is = ap (page_set c.self.inside.first) c.as_slice.ensures.value ∙ c.self.view_is in
    (λ h. sym is ∙ c.are_zero.ensures.0 h, λ h. c.are_zero.ensures.1 (is ∙ h))
