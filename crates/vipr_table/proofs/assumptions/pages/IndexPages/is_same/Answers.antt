use Rattle.std.proofs.Common.{◌∙◌, ap, sym}
use Rattle.vipr_table.specs.Sets.{union_of_all}
use Rattle.vipr_table.proofs.assumptions.pages.IndexPages.is_same.Goals as goal

pub returns : goal.returns
returns c = λ h.
    sym (ap union_of_all c.as_slice.ensures.value ∙ c.self.view_is) ∙ c.are_same.ensures h
    ∙ ap union_of_all c.as_slice-2.ensures.value ∙ c.other.view_is
