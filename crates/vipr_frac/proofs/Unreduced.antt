-- Sums of fractions whose parts are words of 64 bits, and needn't be in lowest terms.
use Rattle.std.proofs.Common.{◌≡◌, ℕ, ◌*◌, ◌/◌, ◌%◌, ◌<◌, ◌≤◌, ◌^◌, refl, sym, ap, ap₂, ◌∙◌, arith}
use Rattle.std.proofs.Common.{FitsSigned, pos_of_ne-zero, zero-mul}
use Rattle.std.proofs.Math.Nat.{div-mul_cancel, mul_comm}
use Rattle.std.proofs.{lemmas.Int.ints, lemmas.Nat.Gcd.dvd_of_mod-eq-zero}
use Rattle.std.specs.Prelude.{ℤ, pos, ◌+ℤ◌, ◌*ℤ◌, unsigned_abs, Bool, Option}
use Rattle.std.specs.Prelude.{IsSome, IfSome, IsTrue, IsFalse, MatchOption}
use Rattle.std.specs.Int.{w64}
use Rattle.vipr_spec.specs.Fraction.{ℚ, over, ◌+ℚ◌, ◌*ℚ◌}
use Rattle.vipr_spec.specs.{Gcd.gcd, GcdLaws.gcd_is}
use Rattle.vipr_spec.proofs.Laws.{over_common}
use Rattle.vipr_frac.specs.Parts.{IsSmall, AreWords}
use Rattle.vipr_frac.proofs.{Views.over-parts}

-- ---- words
pub word_abs : (z : ℤ) → FitsSigned w64 z → unsigned_abs z ≤ 2 ^ 63
word_abs z h = let k = h.sfits in omega (arith, ints)

pub some_words : (x : ℚ) (p : ℤ) (q : ℕ) (o : Option (ℤ × ℕ)) → p ≡ x.numer → q ≡ x.denom
    → MatchOption o (¬ AreWords p q) (λ r. AreWords p q × (r.0 ≡ p) × (r.1 ≡ q))
    → IfSome o (λ r. r.0 ≡ x.numer) × IfSome o (λ r. r.1 ≡ x.denom) × (IsSome o → IsSmall x)
some_words x p q o e f h = grind arith

-- ---- a sum over a common denominator
some_factor : (n u g : ℕ) → 0 < n → n ≡ u * g → 0 < u
some_factor n u g some e = pos_of_ne-zero (λ z. let none : n ≡ 0 * g = e ∙ ap (λ k. k * g) z in
    absurd (omega (arith, zero-mul g)))

module _ (q s g u v : ℕ) (q_some : 0 < q) (s_some : 0 < s) (g_some : 0 < g) (q_is : q ≡ v * g) (s_is : s ≡ u * g) where
  pub factor_some : 0 < u
  factor_some = some_factor s u g s_some s_is

  pub common_sum : (p r : ℤ) → over (p *ℤ pos u +ℤ r *ℤ pos v) (q * u) ≡ over p q +ℚ over r s
  common_sum p r = grind (arith, over_common)

-- the second denominator is a multiple of the first
pub raised_sum : (q s u : ℕ) → 0 < q → 0 < s → s ≡ u * q → (p r : ℤ)
    → over (p *ℤ pos u +ℤ r *ℤ pos 1) s ≡ over p q +ℚ over r s
raised_sum q s u q_some s_some s_is p r =
    let once : q ≡ 1 * q = omega arith in
    let law = common_sum q s q u 1 q_some s_some q_some once s_is p r in
    ap (over (p *ℤ pos u +ℤ r *ℤ pos 1)) (s_is ∙ mul_comm u q) ∙ law

-- the greatest common divisor is taken out
pub first_factor : (q s g : ℕ) → g ≡ gcd q s → q ≡ q / g * g
first_factor q s g e = rw e (sym (div-mul_cancel (gcd q s) (gcd_is q s).0))

pub second_factor : (q s g : ℕ) → g ≡ gcd q s → s ≡ s / g * g
second_factor q s g e = rw e (sym (div-mul_cancel (gcd q s) (gcd_is q s).1))

-- one divides the other
pub whole_factor : (q s : ℕ) → s % q ≡ 0 → s ≡ s / q * q
whole_factor q s e = sym (div-mul_cancel q (dvd_of_mod-eq-zero q e))

-- ---- small parts
pub small_over : (p : ℤ) (q : ℕ) → 0 < q → unsigned_abs p ≤ 2 ^ 63 → q < 2 ^ 63 → IsSmall (over p q)
small_over p q some h k = grind (arith, over-parts)

pub product_over : (x y : ℚ) → x *ℚ y ≡ over (x.numer *ℤ y.numer) (x.denom * y.denom)
unfolding ◌*ℚ◌
product_over x y = refl

-- ---- parts that are put into a sum
pub put_value : (o : Option (ℤ × ℕ)) (r : Bool) (old new v : ℚ)
    → MatchOption o (IsFalse r × (new ≡ old)) (λ t. IsTrue r × (new ≡ over t.0 t.1))
    → IfSome o (λ t. over t.0 t.1 ≡ v) → (IsTrue r → new ≡ v) × (IsFalse r → new ≡ old)
put_value o r old new v h e = grind arith

pub sum-swap : (x y : ℚ) → x +ℚ y ≡ y +ℚ x
unfolding ◌+ℚ◌
sum-swap x y = ap₂ over (omega (arith, ints)) (mul_comm x.denom y.denom)

pub is_product : (x y : ℚ) (p : ℤ) (q : ℕ) → p ≡ x.numer *ℤ y.numer → q ≡ x.denom * y.denom
    → over p q ≡ x *ℚ y
is_product x y p q e f = ap₂ over e f ∙ sym (product_over x y)

pub product_of : (x y : ℚ) (p r : ℤ) (q s : ℕ) (o : Option (ℤ × ℕ)) → p ≡ x.numer → q ≡ x.denom
    → r ≡ y.numer → s ≡ y.denom
    → IfSome o (λ t. (t.0 ≡ p *ℤ r) × (t.1 ≡ q * s) × (0 < t.1) × (t.1 < 2 ^ 63))
    → IfSome o (λ t. over t.0 t.1 ≡ x *ℚ y)
product_of x y p r q s o e f g h k = grind (arith, is_product)

pub turned : (o : Option (ℤ × ℕ)) (x y : ℚ) → IfSome o (λ t. over t.0 t.1 ≡ y +ℚ x)
    → IfSome o (λ t. over t.0 t.1 ≡ x +ℚ y)
turned o x y h = grind (arith, sum-swap)
