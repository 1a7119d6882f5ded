use Rattle.std.proofs.Common.{◌∙◌, ap₂}
use Rattle.std.specs.FinSet.{union, from_list}
use Rattle.vipr_table.specs.Sets.{union_of_all}
use Rattle.vipr_table.proofs.UnionsLemmas.{none_union}
use Rattle.vipr_table.proofs.assumptions.pages.IndexPages.indices.Goals as goal

pub returns : goal.returns
returns c =
    c.in_ok-add_indices.ensures
    ∙ ap₂ (λ xs ps. union (from_list xs) (union_of_all ps)) c.in_ok-indices.ensures.items c.as_slice.ensures.value
    ∙ none_union _
    ∙ c.self.view_is
