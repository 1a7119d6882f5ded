-- Which places were touched: a mark at each, and their list
use Rattle.std.specs.Prelude.{◌≡◌, ◌≢◌, ℕ, ◌≤◌, Bool, true, false, nat_eq, List, length}
use Rattle.std.specs.Prelude.{slice_index_or, Contains, filter, map}
use Rattle.std.specs.{FinMap.from_sorted, List.IsDistinct, List.list_any}
use Rattle.vipr_spec.specs.{Constraint.at, Fraction.ℚ, Fraction.zero_ℚ, Reading.is_nonzero}

-- the list has the marked places, each once
pub record Touching (marks : List Bool) (touched : List ℕ) : Type 0 where
  pub listed : (j : ℕ) → slice_index_or marks j false ≡ list_any (nat_eq j) touched
  pub distinct : IsDistinct nat_eq touched

-- a place whose sum is not 0 is marked
abbrev pub Covers : List ℚ → List Bool → Type 0
Covers sums marks = (j : ℕ) → slice_index_or sums j zero_ℚ ≢ zero_ℚ
    → slice_index_or marks j false ≡ true

-- the list has the marked places, and room for all
pub record AreTouched (marks : List Bool) (list : List ℕ) (capacity : ℕ) : Type 0 where
  pub room : length marks ≤ capacity
  pub touching : Touching marks list

-- there is a mark for each sum, at those that are not 0
pub record AreCovered (sums : List ℚ) (marks : List Bool) : Type 0 where
  pub places : length marks ≡ length sums
  pub covers : Covers sums marks

-- a sum that is not 0 is at one of these places
abbrev pub CoversNonzero : List ℚ → List ℕ → Type 0
CoversNonzero sums places = (j : ℕ) → slice_index_or sums j zero_ℚ ≢ zero_ℚ
    → Contains places j

-- the entries of a row whose coefficients are the sums
abbrev pub HasRowEntries : List ℚ → List (ℕ × ℚ) → Type 0
HasRowEntries sums es = (j : ℕ) → at (from_sorted es) j ≡ slice_index_or sums j zero_ℚ

-- the sums at these places that are not 0, with the places
abbrev pub nonzero_entries : List ℚ → List ℕ → List (ℕ × ℚ)
nonzero_entries sums places =
    filter is_nonzero (map (λ j. (j, slice_index_or sums j zero_ℚ)) places)
