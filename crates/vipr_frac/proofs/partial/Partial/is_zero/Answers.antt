use Rattle.std.proofs.Common.{ℕ, ◌≡◌, ◌<◌, ◌∙◌, refl, sym, subst, arith, ℤ, pos, ◌*ℤ◌, to_z, of_z}
use Rattle.std.specs.Int.{w128}
use Rattle.std.proofs.lemmas.Int.{ints}
use Rattle.vipr_spec.specs.{Fraction.over, Fraction.zero_ℚ, Gcd.gcd}
use Rattle.vipr_spec.proofs.Laws.{Is, is_one, is_over, is_zero}
use Rattle.vipr_frac.proofs.Views.{as-is}
use Rattle.vipr_frac.proofs.partial.Partial.is_zero.Goals as goal

zero_denom : zero_ℚ.denom ≡ 1
unfolding over gcd
zero_denom = refl

zero_of : (p : ℤ) (q : ℕ) → 0 < q → p ≡ pos 0 → over p q ≡ zero_ℚ
zero_of p q some e = is_one _ _ _ _ (subst (λ z. Is (over p q) z q) e (is_over p q some)) (is_zero q some)

none_of : (p : ℤ) (q : ℕ) → 0 < q → over p q ≡ zero_ℚ → p ≡ pos 0
none_of p q some e =
    let h : Is zero_ℚ p q = subst (λ x. Is x p q) e (is_over p q some) in
    let k : Is zero_ℚ (pos 0) q = is_zero q some in
    let same : p *ℤ pos 1 ≡ pos 0 *ℤ pos 1 = subst (λ n. p *ℤ pos n ≡ pos 0 *ℤ pos n) zero_denom
    (sym h.cross ∙ k.cross) in
    omega (arith, ints, same)

pub returns : goal.returns
returns c =
    let p = c.self.inside.p in
    let some = c.self.invariant.some in
    let back : to_z w128 (of_z w128 p) ≡ p = as-is p c.self.invariant.numer_bounded in
    let view : over p c.self.inside.q ≡ c.args.self.now = c.self.view_is in (
      λ t. sym view ∙ zero_of p c.self.inside.q some (let e = t in grind (arith, ints, e, back)),
      λ e. let z : p ≡ pos 0 = none_of p c.self.inside.q some (view ∙ e) in rw z refl,
    )
