-- The quotient of the numerator by the denominator is the whole number below a fraction.
use Rattle.std.proofs.Common.{ℕ, ◌/◌, ◌<◌, ℤ, pos, negsuc, arith}
use Rattle.std.proofs.{lemmas.Int.ints, lemmas.Int.by_lt_z}
use Rattle.std.specs.Prelude.{◌+ℤ◌, ◌*ℤ◌, ◌≤ℤ◌, ◌<ℤ◌, neg_ℤ}
use Rattle.std.specs.Int.{int_div_euclid}
use Rattle.vipr_spec.specs.{Fraction.ℚ, Fraction.neg_ℚ, FractionOrder.IsFloor, FractionOrder.IsCeil}
use Rattle.vipr_spec.proofs.Laws.{mul-le_ℤ, neg-mul, add-mul_ℤ, is_whole, is_self, is_neg, le_in}
use Rattle.vipr_spec.proofs.Laws.{le_out}

quotient-below : (p : ℤ) (q : ℕ) → 0 < q → (int_div_euclid p (pos q) *ℤ pos q) ≤ℤ p
quotient-below p q h = grind arith

quotient-above : (p : ℤ) (q : ℕ) → 0 < q → p <ℤ ((int_div_euclid p (pos q) +ℤ pos 1) *ℤ pos q)
quotient-above (pos a) q h = omega (arith, ints)
quotient-above (negsuc a) q h = next (negsuc (a / q)) (negsuc a) q (omega (arith, ints))
  where
    next : (k p : ℤ) (q : ℕ) → p <ℤ (k *ℤ pos q +ℤ pos q) → p <ℤ ((k +ℤ pos 1) *ℤ pos q)
    next k p q h = let e = add-mul_ℤ k (pos 1) (pos q) in omega (arith, ints)

pub IsFloor-quotient : (x : ℚ) → IsFloor x (int_div_euclid x.numer (pos x.denom))
IsFloor-quotient x =
    let k : ℤ = int_div_euclid x.numer (pos x.denom) in
    let low : (k *ℤ pos x.denom) ≤ℤ x.numer = quotient-below x.numer x.denom x.lowest.positive in
    let high : x.numer <ℤ ((k +ℤ pos 1) *ℤ pos x.denom) = quotient-above x.numer x.denom x.lowest.positive in (
      le_in _ _ _ _ _ _ (is_whole k) (is_self x) (at_one _ _ low),
      λ m h. greatest m k x.numer x.denom high (le_out _ _ _ _ _ _ (is_whole m) (is_self x) h),
    )
  where
    at_one : (a b : ℤ) → a ≤ℤ b → a ≤ℤ (b *ℤ pos 1)
    at_one a b h = omega (arith, ints)

    greatest : (m k p : ℤ) (q : ℕ) → p <ℤ ((k +ℤ pos 1) *ℤ pos q) → (m *ℤ pos q) ≤ℤ (p *ℤ pos 1) → m ≤ℤ k
    greatest m k p q h l = by_lt_z k m
        (λ above. let next : (k +ℤ pos 1) ≤ℤ m = omega (arith, ints) in
        let more = mul-le_ℤ q _ _ next in absurd (omega (arith, ints)))
        (λ below. below)

pub IsCeil-negated : (x : ℚ) (k : ℤ) → IsFloor (neg_ℚ x) k → IsCeil x (neg_ℤ k)
IsCeil-negated x k f =
    let n = is_neg _ _ _ (is_self x) in (
      le_in _ _ _ _ _ _ (is_self x) (is_whole (neg_ℤ k))
          (turn k x.numer x.denom (le_out _ _ _ _ _ _ (is_whole k) n f.0)),
      λ m h. turned m k
          (f.1 (neg_ℤ m)
          (le_in _ _ _ _ _ _ (is_whole (neg_ℤ m)) n
          (back m x.numer x.denom (le_out _ _ _ _ _ _ (is_self x) (is_whole m) h)))),
    )
  where
    turn : (k p : ℤ) (q : ℕ) → (k *ℤ pos q) ≤ℤ (neg_ℤ p *ℤ pos 1) → (p *ℤ pos 1) ≤ℤ (neg_ℤ k *ℤ pos q)
    turn k p q h = let e = neg-mul k (pos q) in omega (arith, ints)

    back : (m p : ℤ) (q : ℕ) → (p *ℤ pos 1) ≤ℤ (m *ℤ pos q) → (neg_ℤ m *ℤ pos q) ≤ℤ (neg_ℤ p *ℤ pos 1)
    back m p q h = let e = neg-mul m (pos q) in omega (arith, ints)

    turned : (m k : ℤ) → neg_ℤ m ≤ℤ k → neg_ℤ k ≤ℤ m
    turned m k h = omega (arith, ints)
