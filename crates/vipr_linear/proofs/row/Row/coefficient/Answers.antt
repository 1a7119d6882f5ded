use Rattle.std.proofs.Common.{ℕ, ◌∙◌, ap, sym, rules}
use Rattle.vipr_spec.specs.{Constraint.at, Fraction.ℚ}
use Rattle.std.proofs.lemmas.List.Sorted.{answers_always}
use Rattle.vipr_linear.proofs.Searching.{searchable, found_at, not_found}
use Rattle.vipr_linear.specs.Row.{kept_items}
use Rattle.vipr_linear.proofs.row.Row.coefficient.Goals as goal

pub returns-in-Ok : goal.returns-in-Ok
returns-in-Ok c =
    let list = c.as_slice-entries.ensures in
    let tie = rw list at
    (c.in-Ok.ensures.position (λ p. p.0) (answers_always _ _ _ (λ f a r g h. search rules))
    c.index-entries-place.result) in
    let bound = rw list at c.in-Ok.ensures.bound in
    let is = rw list at c.index-entries-place.is in
    ap (λ (p : ℕ × ℚ). p.1) (sym c.index-entries-place.is)
    ∙ found_at (kept_items c.self.inside.kept) c.args.variable c.in-Ok.place
    c.index-entries-place.result c.self.invariant.rising bound is tie
    ∙ ap (λ m. at m c.args.variable) c.self.view_is

pub returns-in-Err : goal.returns-in-Err
returns-in-Err c =
    let list = c.as_slice-entries.ensures in
    let known = rw list at (c.in-Err.ensures.position (λ p. p.0) (answers_always _ _ _ (λ f a r g h. search rules))) in
    c.zero.ensures ∙ not_found (kept_items c.self.inside.kept) c.args.variable c.in-Err.field-0
    c.self.invariant.rising (known (searchable _ c.args.variable c.self.invariant.rising))
    ∙ ap (λ m. at m c.args.variable) c.self.view_is
