-- Rows as lists of variables with coefficients
use Rattle.std.specs.Prelude.{◌≡◌, ◌≢◌, ℕ, ◌+◌, ◌≤◌, nat_eq, List, [], ◌∷◌, ◌++◌, map, Contains}
use Rattle.std.specs.Prelude.{All}
use Rattle.std.specs.List.{IsDistinct}
use Rattle.vipr_spec.specs.Fraction.{ℚ, zero_ℚ, IsBounded}
use Rattle.vipr_linear.specs.declared.row_entries.RowEntries.{RowEntries}
use Rattle.vipr_linear.specs.declared.row_entries.RowEntries.TheVariants.{One, Own, Shared}

-- the variables rise from `low` on, and no coefficient is 0
abbrev pub RisesFrom : ℕ → List (ℕ × ℚ) → Type 0
RisesFrom low [] = Unit {0}
RisesFrom low (e ∷ es) = (low ≤ e.0) × (e.1 ≢ zero_ℚ) × RisesFrom (e.0 + 1) es

-- the entries of a row
pub record AreEntries (es : List (ℕ × ℚ)) : Type 0 where
  pub rising : RisesFrom 0 es
  pub bounded : All (λ e. IsBounded e.1) es

abbrev pub variables_of : List (ℕ × ℚ) → List ℕ
variables_of pairs = map (λ p. p.0) pairs

-- v is the first variable that stood before
pub record IsFirstRepeated (variables : List ℕ) (v : ℕ) : Type 0 where
  pub before : List ℕ
  pub after : List ℕ
  pub parts : variables ≡ before ++ v ∷ after
  pub distinct : IsDistinct nat_eq before
  pub repeated : Contains before v

-- the list that a row keeps
abbrev pub kept_items : RowEntries → List (ℕ × ℚ)
kept_items (One item) = item ∷ []
kept_items (Own items) = items.items
kept_items (Shared items) = items.items
