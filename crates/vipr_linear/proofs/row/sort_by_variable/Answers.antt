use Rattle.std.proofs.{Common.rules, lemmas.List.Sorted.IsNonDecreasingBy-from_sort_by_key}
use Rattle.vipr_linear.proofs.row.sort_by_variable.Goals as goal

pub returns-clause-sorted : goal.returns-clause-sorted
returns-clause-sorted c = IsNonDecreasingBy-from_sort_by_key
    (λ p. p.0) _ c.sort_unstable_by_key.ensures.sorted (λ a r q k. search rules)
