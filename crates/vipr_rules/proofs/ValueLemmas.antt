-- Rows with the same coefficients have the same value
use Rattle.std.proofs.Common.{◌≡◌, ℕ, zero, suc, refl, ap₂, subst₂}
use Rattle.vipr_spec.specs.Constraint.{Point, value, ValueFits}
use Rattle.vipr_spec.specs.{Fraction.ℚ, Fraction.◌+ℚ◌, Fraction.◌*ℚ◌, MoreEntries.TermFits}

pub value_same : (n : ℕ) (x : Point) (a b : ℕ → ℚ) → ((j : ℕ) → a j ≡ b j)
    → value n a x ≡ value n b x
value_same zero x a b h = refl
value_same (suc n) x a b h = ap₂ (λ v c. v +ℚ c *ℚ x n) (value_same n x a b h) (h n)

pub fits_same : (n : ℕ) (x : Point) (a b : ℕ → ℚ) → ((j : ℕ) → a j ≡ b j) → ValueFits n a x
    → ValueFits n b x
fits_same n x a b h fits j l = subst₂ (λ v c. TermFits v c (x j)) (value_same j x a b h) (h j) (fits j l)
