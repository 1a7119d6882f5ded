use Rattle.std.proofs.Common.{rules, ℕ, not, nat_eq, filter, ap, ◌∙◌}
use Rattle.std.proofs.lemmas.Fn.{filter_same}
use Rattle.vipr_table.proofs.assumptions.merge.all_but.Goals as goal

pub returns : goal.returns
returns c =
    filter_same _ (λ (x : ℕ). not (nat_eq x c.args.index)) _ (λ x b f t. search rules) _ _ c.retain.ensures.filtered
    ∙ ap (filter (λ (x : ℕ). not (nat_eq x c.args.index))) (c.in_ok-items.ensures.items_if_clones_equal (λ x y e. e))
