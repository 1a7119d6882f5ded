-- The numbers that a sum and a product go through, and what the fields of a `Frac` keep.
use Rattle.std.specs.Prelude.{◌≡◌, ◌↔◌, ℕ, ◌*◌, ◌/◌, ◌<◌, ◌≤◌, ◌^◌, ◌⊎◌, ℤ, pos, ◌+ℤ◌, ◌*ℤ◌}
use Rattle.std.specs.Prelude.{unsigned_abs, int_div, FitsSigned, Result, IsOk, OnOk, OnErr}
use Rattle.std.specs.Prelude.{Bool, IsTrue, IsFalse}
use Rattle.std.specs.Int.{w64}
use Rattle.vipr_spec.specs.Fraction.{ℚ, most, ◌+ℚ◌, ◌*ℚ◌, ProductFits, SumFits}
use Rattle.vipr_spec.specs.{Gcd.gcd, Lowest.IsLowest}

-- p / q is in lowest terms and bounded
pub record IsReduced (p : ℤ) (q : ℕ) : Type 0 where
  pub lowest : IsLowest p q
  pub numer_bounded : unsigned_abs p ≤ most
  pub denom_bounded : q ≤ most

-- p / q and r / s are
pub record AreReduced (p : ℤ) (q : ℕ) (r : ℤ) (s : ℕ) : Type 0 where
  pub left : IsReduced p q
  pub right : IsReduced r s

-- both are words of 64 bits with a sign
pub record AreWords (p : ℤ) (q : ℕ) : Type 0 where
  pub numer : FitsSigned w64 p
  pub denom : q < 2 ^ 63

-- a denominator that is a word of 64 bits with a sign
pub record IsWordDenom (q : ℕ) : Type 0 where
  pub some : 0 < q
  pub below : q < 2 ^ 63

-- p / q is bounded, and in lowest terms unless both are words of 64 bits
pub record IsPartial (p : ℤ) (q : ℕ) : Type 0 where
  pub some : 0 < q
  pub numer_bounded : unsigned_abs p ≤ most
  pub denom_bounded : q ≤ most
  pub words_or_lowest : AreWords p q ⊎ IsLowest p q

-- the two parts of a sum over the least common denominator
abbrev pub left_part : ℚ → ℚ → ℤ
left_part x y = x.numer *ℤ pos (y.denom / gcd x.denom y.denom)

abbrev pub right_part : ℚ → ℚ → ℤ
right_part x y = y.numer *ℤ pos (x.denom / gcd x.denom y.denom)

abbrev pub both_parts : ℚ → ℚ → ℤ
both_parts x y = left_part x y +ℤ right_part x y

-- what is left to be divided out of both, and the denominator after that
abbrev pub sum_gcd : ℚ → ℚ → ℕ
sum_gcd x y = gcd (unsigned_abs (both_parts x y)) (gcd x.denom y.denom)

abbrev pub sum_denom : ℚ → ℚ → ℕ
sum_denom x y = (x.denom / gcd x.denom y.denom) * (y.denom / sum_gcd x y)

-- a product, reduced crosswise first
abbrev pub product_numer : ℚ → ℚ → ℤ
product_numer x y =
    int_div x.numer (pos (gcd (unsigned_abs x.numer) y.denom)) *ℤ int_div y.numer
    (pos (gcd (unsigned_abs y.numer) x.denom))

abbrev pub product_denom : ℚ → ℚ → ℕ
product_denom x y =
    x.denom / gcd (unsigned_abs y.numer) x.denom * (y.denom / gcd (unsigned_abs x.numer) y.denom)

pub record FitsProduct (x y : ℚ) : Type 0 where
  pub numer : unsigned_abs (product_numer x y) ≤ most
  pub below : product_denom x y ≤ most

-- the first three tests of a sum
pub record FitsParts (x y : ℚ) : Type 0 where
  pub left : unsigned_abs (left_part x y) ≤ most
  pub right : unsigned_abs (right_part x y) ≤ most
  pub both : unsigned_abs (both_parts x y) ≤ most

pub record FitsSum (x y : ℚ) : Type 0 where
  pub left : unsigned_abs (left_part x y) ≤ most
  pub right : unsigned_abs (right_part x y) ≤ most
  pub both : unsigned_abs (both_parts x y) ≤ most
  pub below : sum_denom x y ≤ most

-- products of two such parts, and sums of two such products, are in bound
pub record IsSmall (x : ℚ) : Type 0 where
  pub numer : unsigned_abs x.numer ≤ 2 ^ 63
  pub denom : x.denom < 2 ^ 63

-- the product of a and b was added to a sum, unless it or the new sum is out of bound
pub record AddsProduct {E : Type 0} (a b old new : ℚ) (result : Result (Unit {0}) E) : Type 0 where
  pub fits : IsOk result ↔ (ProductFits a b × SumFits old (a *ℚ b))
  pub sum : OnOk result (new ≡ old +ℚ a *ℚ b)
  pub kept : OnErr result (new ≡ old)

-- where it is done a sum is x, and else it stays as it was
pub record PutsOrKeeps (x old new : ℚ) (done : Bool) : Type 0 where
  pub sum : IsTrue done → new ≡ x
  pub kept : IsFalse done → new ≡ old
