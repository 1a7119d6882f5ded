use Rattle.std.proofs.Common.{◌∙◌, ℕ, All, refl, sym, subst}
use Rattle.std.proofs.{lemmas.Bool.false≢true, lemmas.List.take_all, lemmas.List.Elements.All-more}
use Rattle.vipr_spec.specs.{Constraint.IsInteger, Fraction.ℚ, Fraction.IsWhole}
use Rattle.vipr_linear.proofs.Adding.{row_each}
use Rattle.vipr_linear.proofs.rounding.is_whole_row.Goals as goal

pub loop-variable-preserved : goal.loop-variable-preserved
loop-variable-preserved c =
    let P : ℕ × ℚ → Type 0 = λ e. IsWhole e.1 × IsInteger c.args.ints.now e.0 in
    let here : P c.loop-variable-item.result = c.is_whole_at.ensures.0 c.if-not-is_whole_at.false in
    All-more P _ c.loop-variable.variable-index c.loop-variable-item.result
    c.loop-variable-test.true c.loop-variable.invariant (subst P c.loop-variable-item.is here)

pub returns-then-not-is_whole_at : goal.returns-then-not-is_whole_at
returns-then-not-is_whole_at c =
    let P : ℕ × ℚ → Type 0 = λ e. IsWhole e.1 × IsInteger c.args.ints.now e.0 in
    let list = c.entries-variable-items.ensures.list in
    let each = row_each c.args.row.now (λ j x. IsWhole x × IsInteger c.args.ints.now j)
    (rw list at c.entries-variable-items.ensures.rising) in (
      λ t. absurd (false≢true t),
      λ w.
          let all : All P c.entries-variable-items.result.now = subst (All P) (sym list) (each.1 w) in
          let here : P c.loop-variable-item.result = subst P (sym c.loop-variable-item.is)
          (all c.loop-variable.variable-index c.loop-variable-item.result
          c.loop-variable-test.true) in
          absurd (false≢true (sym c.if-not-is_whole_at.true ∙ c.is_whole_at.ensures.1 here)),
    )

pub returns : goal.returns
returns c =
    let P : ℕ × ℚ → Type 0 = λ e. IsWhole e.1 × IsInteger c.args.ints.now e.0 in
    let list = c.entries-variable-items.ensures.list in
    let each = row_each c.args.row.now (λ j x. IsWhole x × IsInteger c.args.ints.now j)
    (rw list at c.entries-variable-items.ensures.rising) in
    let all : All P c.entries-variable-items.result.now =
    subst (All P)
    (take_all c.loop-variable.variable-index c.entries-variable-items.result.now
    c.loop-variable-test.false) c.loop-variable.invariant in
    (λ t. each.0 (subst (All P) list all), λ w. refl)
