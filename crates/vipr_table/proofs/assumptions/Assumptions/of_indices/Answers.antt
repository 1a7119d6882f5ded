use Rattle.std.proofs.{Common.rules, Common.◌<◌, Common.◌∙◌, Common.◌^◌, lemmas.Result.IfOk-weaker}
use Rattle.std.specs.List.{All}
use Rattle.vipr_table.proofs.SetLemmas.{deduped_set, deduped_rising}
use Rattle.vipr_table.proofs.assumptions.Assumptions.of_indices.Goals as goal

pub of_rising-requires : goal.of_rising-requires
of_rising-requires c =
    let below : All (λ x. x < 2 ^ 32) c.dedup.new.self.items = search rules in
    deduped_rising _ _ c.sort_unstable.ensures.sorted c.dedup.ensures.filtered below

pub returns : goal.returns
returns c = IfOk-weaker c.of_rising.result _ _
    (λ s e. e ∙ deduped_set _ _ _ c.sort_unstable.ensures.permutation c.dedup.ensures.filtered)
    c.of_rising.ensures
