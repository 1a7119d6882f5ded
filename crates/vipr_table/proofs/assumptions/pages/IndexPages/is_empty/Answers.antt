use Rattle.std.proofs.Common.{◌∙◌, ap, sym}
use Rattle.vipr_table.specs.Sets.{union_of_all}
use Rattle.vipr_table.proofs.assumptions.pages.IndexPages.is_empty.Goals as goal

pub returns : goal.returns
returns c =
    let is = ap union_of_all c.as_slice.ensures.value ∙ c.self.view_is in
    (λ h. sym is ∙ c.are_empty.ensures.0 h, λ h. c.are_empty.ensures.1 (is ∙ h))
