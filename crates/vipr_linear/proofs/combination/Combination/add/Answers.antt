use Rattle.std.proofs.Common.{◌≡◌, ◌≢◌, ◌∙◌, ap, sym, refl, is_some, is_ok, subst, false, Some}
use Rattle.std.proofs.lemmas.Bool.{false≢true}
use Rattle.vipr_spec.specs.Fraction.{zero_ℚ}
use Rattle.vipr_spec.specs.MoreEntries.{sense_of_both, sense_of_multiple}
use Rattle.vipr_linear.specs.Accumulator.{Accumulator, joined_with, AdditionFits}
use Rattle.vipr_linear.specs.Constraint.{sense_of, condition_of}
use Rattle.vipr_linear.proofs.Adding.{nothing_changes, known_zero, known_nonzero, suits_zero}
use Rattle.vipr_linear.proofs.combination.Combination.add.Goals as goal

pub returns-then-is_zero-clause-added : goal.returns-then-is_zero-clause-added
returns-then-is_zero-clause-added c =
    let fresh : c.args.self.now.spent ≡ false = ap (λ (a : Accumulator). a.spent)
    (sym c.self.view_is) ∙ c.if-self.false in
    nothing_changes c.args.self.now _ fresh
    (known_zero c.args.multiplier c.is_zero.result c.is_zero.ensures.zero c.if-is_zero.true)

pub returns-then-is_zero-clause-ok : goal.returns-then-is_zero-clause-ok
returns-then-is_zero-clause-ok c =
    let fresh : c.args.self.now.spent ≡ false = ap (λ (a : Accumulator). a.spent)
    (sym c.self.view_is) ∙ c.if-self.false in
    let zero = known_zero c.args.multiplier c.is_zero.result c.is_zero.ensures.zero c.if-is_zero.true in (
      λ _. record {
        fresh = fresh;
        suitable = ap is_some
            (suits_zero c.args.self.now (c.args.multiplier, condition_of c.args.constraint.now) zero);
        fits = λ n. absurd (n zero);
      },
      λ _. refl,
    )

pub returns-then-is_zero-clause-mixed_signs : goal.returns-then-is_zero-clause-mixed_signs
returns-then-is_zero-clause-mixed_signs c =
    let suits = suits_zero c.args.self.now (c.args.multiplier, condition_of c.args.constraint.now)
    (known_zero c.args.multiplier c.is_zero.result c.is_zero.ensures.zero c.if-is_zero.true) in
    (λ e. absurd (false≢true (sym (ap is_ok e))), λ h. absurd (false≢true (sym h.1 ∙ ap is_some suits)))

pub returns-then-is_zero-clause-overflow : goal.returns-then-is_zero-clause-overflow
returns-then-is_zero-clause-overflow c = (
  λ e. absurd (false≢true (sym (ap is_ok e))),
  λ h. absurd (h.2
      (λ n. absurd
      (n (known_zero c.args.multiplier c.is_zero.result c.is_zero.ensures.zero c.if-is_zero.true)))),
)

pub returns-in-Ok-clause-overflow : goal.returns-in-Ok-clause-overflow
returns-in-Ok-clause-overflow c =
    let known = c.in-Ok.ensures.fits in (
      λ e. absurd (false≢true (sym (ap is_ok e))),
      λ h. absurd (h.2
          (subst (λ (a : Accumulator). AdditionFits a
          (c.args.multiplier, condition_of c.args.constraint.now)) c.self.view_is
          (λ _. known.0 refl))),
    )

pub returns-in-Err-clause-ok : goal.returns-in-Err-clause-ok
returns-in-Err-clause-ok c =
    let some : c.args.multiplier ≢ zero_ℚ =
    known_nonzero c.args.multiplier c.is_zero.result c.is_zero.ensures.zero c.if-is_zero.false
    in
    let known = c.in-Err.ensures.fits in
    let never : AdditionFits c.args.self.now (c.args.multiplier, condition_of c.args.constraint.now) → ⊥ = λ fits.
    false≢true (known.1
    (subst (λ (a : Accumulator). AdditionFits a
    (c.args.multiplier, condition_of c.args.constraint.now)) (sym c.self.view_is) fits some)) in
    (λ t. absurd (false≢true t), λ h. absurd (never h.fits))

pub returns-in-Err-clause-overflow : goal.returns-in-Err-clause-overflow
returns-in-Err-clause-overflow c =
    let fresh : c.args.self.now.spent ≡ false = ap (λ (a : Accumulator). a.spent)
    (sym c.self.view_is) ∙ c.if-self.false in
    let suitable : joined_with c.args.self.now
    (c.args.multiplier, condition_of c.args.constraint.now) ≡ Some (sense_of c.in-Some.sense) =
    ap (λ (a : Accumulator). sense_of_both a.sense
    (sense_of_multiple c.args.multiplier (sense_of c.args.constraint.now.sense)))
    (sym c.self.view_is) ∙ ap (sense_of_both (sense_of c.self.inside.sense))
    (sym c.turned.ensures) ∙ c.in-Some.ensures in
    let some : c.args.multiplier ≢ zero_ℚ =
    known_nonzero c.args.multiplier c.is_zero.result c.is_zero.ensures.zero c.if-is_zero.false
    in
    let known = c.in-Err.ensures.fits in
    let never : AdditionFits c.args.self.now (c.args.multiplier, condition_of c.args.constraint.now) → ⊥ = λ fits.
    false≢true (known.1
    (subst (λ (a : Accumulator). AdditionFits a
    (c.args.multiplier, condition_of c.args.constraint.now)) (sym c.self.view_is) fits some)) in
    (λ _. (fresh, ap is_some suitable, never), λ _. refl)
