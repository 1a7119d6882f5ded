-- What is so of the parts that were read, whether or not the source's bytes are known: they are
-- within the limits, and their numbers can be written
use Rattle.std.specs.Prelude.{◌≡◌, ℕ, ◌+◌, ◌<◌, ◌≤◌, Bool, false, List, nat_eq, length, All}
use Rattle.std.specs.Prelude.{slice_index_or}
use Rattle.std.specs.List.{IsDistinct}
use Rattle.vipr_spec.specs.Constraint.{Row, at, Constraint, NamesBelow}
use Rattle.vipr_spec.specs.Certificate.{Name, Named, Problem, variables, Reason, Derivation}
use Rattle.vipr_spec.specs.Shape.{ConstraintShape, SolutionShape, ReasonShape, DerivationShape}
use Rattle.vipr_spec.specs.Shape.{RowFits, ConstraintFits, EntryFits, ReasonFits, DerivationFits}
use Rattle.vipr_spec.specs.{Fraction.ℚ, Reading.most_count, Tokens.IsToken}
use Rattle.vipr_linear.specs.Row.{variables_of}

-- this variable has a mark, which isn't set
pub record IsUnmarked (marks : List Bool) (i : ℕ) : Type 0 where
  pub below : i < length marks
  pub new : slice_index_or marks i false ≡ false

-- their variables are below n, and none occurs twice
pub record ArePairs (n : ℕ) (pairs : List (ℕ × ℚ)) : Type 0 where
  pub below : All (λ p. p.0 < n) pairs
  pub distinct : IsDistinct nat_eq (variables_of pairs)

-- its variables are below n, and its coefficients can be written
pub record CanWriteRow (n : ℕ) (row : Row) : Type 0 where
  pub below : NamesBelow n (at row)
  pub fits : RowFits row

-- each is a token, and there are no more than a count may be
pub record AreNames (names : List Name) : Type 0 where
  pub tokens : All IsToken names
  pub few : length names ≤ most_count

-- constraints over n variables, so many of them bounds
pub record AreConstraints (n bound_count : ℕ) (constraints : List (Named Constraint)) : Type 0 where
  pub bounds : bound_count ≤ most_count
  pub few : length constraints ≤ most_count
  pub shape : All (ConstraintShape n) constraints
  pub fit : All (λ c. ConstraintFits c.item) constraints

-- entries of a reason, no more than a count may be
pub record CanWriteEntries (entries : List (ℕ × ℚ)) : Type 0 where
  pub few : length entries ≤ most_count
  pub fit : All EntryFits entries

-- a reason with no more entries than a count may be, whose numbers can be written
pub record CanWriteReason (r : Reason) : Type 0 where
  pub shape : ReasonShape r
  pub fits : ReasonFits r

-- a solution over n variables, whose coefficients can be written
pub record CanWriteSolution (n : ℕ) (s : Named Row) : Type 0 where
  pub shape : SolutionShape n s
  pub fits : RowFits s.item

-- derivations that a certificate with this problem may have
pub record CanWriteDerivations (p : Problem) (derivations : List Derivation) : Type 0 where
  pub few : length p.constraints + length derivations ≤ most_count
  pub shape : All (DerivationShape (variables p)) derivations
  pub fits : All DerivationFits derivations
