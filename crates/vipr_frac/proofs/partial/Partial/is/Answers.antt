use Rattle.std.proofs.Common.{rules, ◌≡◌, ◌<◌, ◌∙◌, ℕ, ℤ, pos, ◌*ℤ◌, sym, subst, FitsSigned, to_z, of_z}
use Rattle.std.specs.{Int.w64, Prelude.◌↔◌}
use Rattle.std.proofs.lemmas.Int.{to_z-of_z}
use Rattle.vipr_spec.specs.Fraction.{ℚ, over}
use Rattle.vipr_spec.proofs.Laws.{Is, is_one, is_over}
use Rattle.vipr_frac.proofs.Views.{as-is, facts_of, Facts}
use Rattle.vipr_frac.proofs.partial.Partial.is.Goals as goal

-- the cross products of a fraction and its parts in lowest terms
crossed : (x : ℚ) (p : ℤ) (q : ℕ) → 0 < q
    → (p *ℤ pos x.denom ≡ x.numer *ℤ pos q) ↔ (over p q ≡ x)
crossed x p q some = (
  λ e. is_one _ _ p q (is_over p q some) (record { some = some; cross = sym e }),
  λ e. let h : Is x p q = subst (λ y. Is y p q) e (is_over p q some) in sym h.cross,
)

pub returns-in-Some-Some : goal.returns-in-Some-Some
returns-in-Some-Some c =
    let x = c.args.fraction in
    let f : Facts x c.parts-r.result.0 c.parts-r.result.1 =
    facts_of _ _ _ c.parts-r.ensures.numer c.parts-r.ensures.denom c.parts-r.ensures.reduced in
    let a = c.in-Some-Some.ensures in
    let b = c.in-Some-Some.ensures' in
    let p_word : FitsSigned w64 c.in-Some-Some.p = search rules in
    let r_word : FitsSigned w64 c.in-Some-Some.r = search rules in
    let p_is : to_z w64 (of_z w64 c.in-Some-Some.p) ≡ c.self.inside.p =
    to_z-of_z w64 c.in-Some-Some.p p_word ∙ a.1
    ∙ as-is c.self.inside.p c.self.invariant.numer_bounded in
    let r_is : to_z w64 (of_z w64 c.in-Some-Some.r) ≡ x.numer = to_z-of_z w64 c.in-Some-Some.r r_word ∙ b.1 ∙ f.back in
    let s_is : c.in-Some-Some.s ≡ x.denom = b.2 ∙ f.denom in
    let h = rw (p_is, r_is, a.2, s_is) at c.are_equal.ensures in
    let both = crossed x c.self.inside.p c.self.inside.q c.self.invariant.some in
    (λ t. sym c.self.view_is ∙ both.0 (h.0 t), λ e. h.1 (both.1 (c.self.view_is ∙ e)))
