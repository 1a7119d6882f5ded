-- Sums and products of small fractions stay in bound.
use Rattle.std.proofs.Common.{◌≡◌, ℕ, ◌+◌, ◌-◌, ◌*◌, ◌/◌, ◌<◌, ◌≤◌, ◌^◌, ap, ◌∙◌, arith, to_z, of_z}
use Rattle.std.proofs.Common.{FitsSigned, lit≤}
use Rattle.std.specs.Prelude.{ℤ, pos, ◌+ℤ◌, ◌*ℤ◌, unsigned_abs}
use Rattle.std.specs.Int.{w128}
use Rattle.std.proofs.Math.Nat.{le_trans, div-le_self, mul-le-mul}
use Rattle.std.proofs.lemmas.Int.{ints, unsigned_abs-mul, fits_signed_from_abs}
use Rattle.vipr_spec.specs.{Fraction.ℚ, Fraction.most, Gcd.gcd}
use Rattle.vipr_frac.specs.Parts.{IsSmall, left_part, right_part, both_parts, sum_denom}
use Rattle.vipr_frac.specs.Parts.{product_numer, product_denom, FitsSum, FitsProduct}
use Rattle.vipr_frac.proofs.Views.{as-is}

pub abs_sum : (u v : ℤ) (m : ℕ) → unsigned_abs u ≤ m → unsigned_abs v ≤ m
    → unsigned_abs (u +ℤ v) ≤ m + m
abs_sum u v m h k = omega (arith, ints)

-- the largest product of a numerator and a denominator of such size
abbrev pub edge : ℕ
edge = 2 ^ 126 - 2 ^ 63

pub product_bound : (a b : ℕ) → a ≤ 2 ^ 63 → b < 2 ^ 63 → a * b ≤ edge
product_bound a b h k = let below : b ≤ 2 ^ 63 - 1 = omega arith in le_trans (mul-le-mul h below) (lit≤ tt)

pub numer_bound : (a b : ℕ) → a ≤ 2 ^ 63 → b ≤ 2 ^ 63 → a * b ≤ 2 ^ 126
numer_bound a b h k = le_trans (mul-le-mul h k) (lit≤ tt)

pub in_bound : (n : ℕ) → n ≤ edge → n ≤ most
in_bound n h = le_trans h (lit≤ tt)

both_bound : (n : ℕ) → n ≤ edge + edge → n ≤ most
both_bound n h = le_trans h (lit≤ tt)

-- a sum of two such products
pub word_products : (p r : ℤ) (u v : ℕ) → unsigned_abs p ≤ 2 ^ 63 → unsigned_abs r ≤ 2 ^ 63
    → u < 2 ^ 63 → v < 2 ^ 63
    → (unsigned_abs (p *ℤ pos u) ≤ most) × (unsigned_abs (r *ℤ pos v) ≤ most)
    × (unsigned_abs (p *ℤ pos u +ℤ r *ℤ pos v) ≤ most)
word_products p r u v a b c d = grind (arith, product_bound)

pub quotient_bound : (n g : ℕ) → n ≤ 2 ^ 63 → n / g ≤ 2 ^ 63
quotient_bound n g h = le_trans (div-le_self n g) h

pub quotient_below : (n g : ℕ) → n < 2 ^ 63 → n / g < 2 ^ 63
quotient_below n g h = let k = div-le_self n g in omega arith

at_most : (n : ℕ) → n < 2 ^ 63 → n ≤ 2 ^ 63
at_most n h = omega arith

module _ (x y : ℚ) (a : IsSmall x) (b : IsSmall y) where
  left_small : unsigned_abs (left_part x y) ≤ edge
  left_small = rw (unsigned_abs-mul x.numer (pos (y.denom / gcd x.denom y.denom)))
      (product_bound _ _ a.numer (quotient_below y.denom _ b.denom))

  right_small : unsigned_abs (right_part x y) ≤ edge
  right_small = rw (unsigned_abs-mul y.numer (pos (x.denom / gcd x.denom y.denom)))
      (product_bound _ _ b.numer (quotient_below x.denom _ a.denom))

  pub both_small : unsigned_abs (both_parts x y) ≤ most
  both_small = both_bound _ (abs_sum (left_part x y) (right_part x y) edge left_small right_small)

  pub sum_denom_small : sum_denom x y ≤ most
  sum_denom_small =
      in_bound _ (product_bound _ _ (quotient_bound x.denom _ (at_most _ a.denom))
      (quotient_below y.denom _ b.denom))

  pub small_sum_fits : FitsSum x y
  small_sum_fits = record {
    left = in_bound _ left_small;
    right = in_bound _ right_small;
    both = both_small;
    below = sum_denom_small;
  }

  pub product_numer_small : unsigned_abs (product_numer x y) ≤ most
  product_numer_small = grind (arith, numer_bound)

  pub product_denom_small : product_denom x y ≤ most
  product_denom_small =
      in_bound _ (product_bound _ _ (quotient_bound x.denom _ (at_most _ a.denom))
      (quotient_below y.denom _ b.denom))

  pub small_product_fits : FitsProduct x y
  small_product_fits = record { numer = product_numer_small; below = product_denom_small }

pub word_fits : (z : ℤ) → unsigned_abs z ≤ most → FitsSigned w128 z
word_fits z h = fits_signed_from_abs w128 z (omega arith)

-- ---- a numerator times what is left of a denominator, as words

module _ (p z : ℤ) (t n : ℕ) (p_is : to_z w128 (of_z w128 p) ≡ z) (t_is : t ≡ n) (low : n < 2 ^ 63)
    (small : unsigned_abs (z *ℤ pos n) ≤ edge) where
  term_now : to_z w128 (of_z w128 p) *ℤ to_z w128 t ≡ z *ℤ pos n
  term_now = rw (p_is, as-is (pos t) (in_bound t (let h : t < 2 ^ 63 = rw t_is low in omega arith)), t_is)

  term_fits : FitsSigned w128 (to_z w128 (of_z w128 p) *ℤ to_z w128 t)
  term_fits = rw term_now (word_fits _ (in_bound _ small))

  term_back : to_z w128 (of_z w128 (to_z w128 (of_z w128 p) *ℤ to_z w128 t)) ≡ z *ℤ pos n
  term_back = ap (λ w. to_z w128 (of_z w128 w)) term_now ∙ as-is _ (in_bound _ small)

-- ---- the steps of a sum
module _ (x y : ℚ) (a : IsSmall x) (b : IsSmall y) (p r : ℤ) (q s g : ℕ)
    (p_is : to_z w128 (of_z w128 p) ≡ x.numer) (r_is : to_z w128 (of_z w128 r) ≡ y.numer)
    (q_is : q ≡ x.denom) (s_is : s ≡ y.denom) (g_value : g ≡ gcd q s) where
  pub g_is : g ≡ gcd x.denom y.denom
  g_is = g_value ∙ rw (q_is, s_is)

  module _ (t : ℕ) (t_value : t ≡ s / g) where
    t_is : t ≡ y.denom / gcd x.denom y.denom
    t_is = t_value ∙ rw (s_is, g_is)

    pub left_fits : FitsSigned w128 (to_z w128 (of_z w128 p) *ℤ to_z w128 t)
    left_fits = term_fits p x.numer t _ p_is t_is (quotient_below y.denom _ b.denom) (left_small x y a b)

    module _ (u : ℕ) (u_value : u ≡ q / g) where
      u_is : u ≡ x.denom / gcd x.denom y.denom
      u_is = u_value ∙ rw (q_is, g_is)

      pub right_fits : FitsSigned w128 (to_z w128 (of_z w128 r) *ℤ to_z w128 u)
      right_fits = term_fits r y.numer u _ r_is u_is (quotient_below x.denom _ a.denom) (right_small x y a b)

      both_now : to_z w128 (of_z w128 (to_z w128 (of_z w128 p) *ℤ to_z w128 t)) +ℤ to_z w128
          (of_z w128 (to_z w128 (of_z w128 r) *ℤ to_z w128 u)) ≡ both_parts x y
      both_now = grind (arith, term_back, left_small, right_small)

      pub both_fits : FitsSigned w128
          (to_z w128 (of_z w128 (to_z w128 (of_z w128 p) *ℤ to_z w128 t)) +ℤ to_z w128
          (of_z w128 (to_z w128 (of_z w128 r) *ℤ to_z w128 u)))
      both_fits = rw both_now (word_fits _ (both_small x y a b))

      pub both_back : to_z w128
          (of_z w128 (to_z w128 (of_z w128 (to_z w128 (of_z w128 p) *ℤ to_z w128 t)) +ℤ to_z w128
          (of_z w128 (to_z w128 (of_z w128 r) *ℤ to_z w128 u)))) ≡ both_parts x y
      both_back = ap (λ z. to_z w128 (of_z w128 z)) both_now ∙ as-is _ (both_small x y a b)
