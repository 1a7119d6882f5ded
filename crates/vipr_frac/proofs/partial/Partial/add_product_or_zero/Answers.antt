use Rattle.std.proofs.Common.{◌≡◌, ◌∙◌, refl, sym, subst, ap, inr}
use Rattle.std.proofs.lemmas.Bool.Decides.{Decides-int_eq}
use Rattle.vipr_spec.specs.Fraction.{zero_ℚ, ◌+ℚ◌, ◌*ℚ◌, IsBounded}
use Rattle.vipr_spec.proofs.Laws.{nothing_more, add-zero_ℚ, mul-zero_ℚ, zero_from_numer}
use Rattle.vipr_frac.proofs.Views.{IsReduced-over}
use Rattle.vipr_frac.proofs.partial.Partial.add_product_or_zero.Goals as goal

pub returns-then-is_zero-clause-fits : goal.returns-then-is_zero-clause-fits
returns-then-is_zero-clause-fits c =
    let none : c.args.number ≡ zero_ℚ = zero_from_numer c.args.number
    ((Decides-int_eq c.args.number.numer _).0 (sym c.is_zero.ensures.zero ∙ c.if-is_zero.true)) in
    let h = IsReduced-over c.self.inside.p c.self.inside.q c.self.invariant.some
    c.self.invariant.numer_bounded c.self.invariant.denom_bounded in
    let bounded : IsBounded c.args.self.now = subst IsBounded c.self.view_is (h.numer_bounded, h.denom_bounded) in
    (λ _. nothing_more c.args.self.now c.args.multiplier c.args.number bounded (inr none), λ _. refl)

pub returns-then-is_zero-clause-sum : goal.returns-then-is_zero-clause-sum
returns-then-is_zero-clause-sum c =
    let none : c.args.number ≡ zero_ℚ = zero_from_numer c.args.number
    ((Decides-int_eq c.args.number.numer _).0 (sym c.is_zero.ensures.zero ∙ c.if-is_zero.true)) in
    sym (ap (λ x. c.args.self.now +ℚ x) (ap (λ x. c.args.multiplier *ℚ x) none ∙ mul-zero_ℚ c.args.multiplier)
    ∙ add-zero_ℚ c.args.self.now)
