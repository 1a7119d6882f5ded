-- The value of a row at listed coordinates, term by term
use Rattle.std.specs.Prelude.{◌≡◌, ℕ, ◌<◌, List, [], ◌∷◌, length, slice_index_or, slice_set}
use Rattle.vipr_spec.specs.Fraction.{ℚ, zero_ℚ, ◌+ℚ◌, ◌*ℚ◌, IsWhole, ProductFits, SumFits}
use Rattle.vipr_spec.specs.Constraint.{Row, Point, at, Ints, IsInteger}

unfoldable pub with_values : ℚ → List (ℕ × ℚ) → Point → ℚ
with_values s [] x = s
with_values s (p ∷ ps) x = with_values (s +ℚ p.1 *ℚ x p.0) ps x

unfoldable pub ValuesFit : ℚ → List (ℕ × ℚ) → Point → Type 0
ValuesFit s [] x = Unit {0}
ValuesFit s (p ∷ ps) x = (ProductFits p.1 (x p.0) × SumFits s (p.1 *ℚ x p.0))
    × ValuesFit (s +ℚ p.1 *ℚ x p.0) ps x

-- ---- a place for each variable

-- each place that an entry names has its coefficient; an entry past the last place is left out
unfoldable pub with_set : List ℚ → List (ℕ × ℚ) → List ℚ
with_set xs [] = xs
with_set xs (p ∷ ps) = with_set (slice_set xs p.0 p.1) ps

-- the coordinates that the places hold, and 0 past the last
abbrev pub point_of : List ℚ → Point
point_of xs j = slice_index_or xs j zero_ℚ

-- the places below n hold the coordinates of a point
pub record IsLaidOut (n : ℕ) (x : Point) (xs : List ℚ) : Type 0 where
  pub places : length xs ≡ n
  pub coordinates : (j : ℕ) → j < n → point_of xs j ≡ x j

-- ---- whole coordinates

abbrev pub AreWhole : Ints → Row → Type 0
AreWhole integers row = (j : ℕ) → IsInteger integers j → IsWhole (at row j)

-- e is the least integer variable whose coordinate isn't whole, with that coordinate
pub record IsFirstFractional (integers : Ints) (row : Row) (e : ℕ × ℚ) : Type 0 where
  pub integer : IsInteger integers e.0
  pub coordinate : at row e.0 ≡ e.1
  pub fractional : ¬ IsWhole e.1
  pub least : (j : ℕ) → j < e.0 → IsInteger integers j → IsWhole (at row j)
