-- What a sum becomes by rounding
use Rattle.std.specs.Prelude.{◌≡◌, ◌<◌, ℕ, ℤ, Bool, false, nat_eq, List, length, slice_index_or}
use Rattle.std.specs.Prelude.{Option, IfSome}
use Rattle.std.specs.{FinSet.from_list, List.list_any, List.Sorted.IsStrictlyIncreasing}
use Rattle.vipr_spec.specs.Fraction.{whole, IsWhole}
use Rattle.vipr_spec.specs.Constraint.{Row as Entries, at, Condition, equal, RoundsTo}
use Rattle.vipr_spec.specs.Constraint.{IsWholeRow, Dominates}
use Rattle.vipr_linear.specs.Constraint.{sense_of, condition_of}
use Rattle.vipr_linear.specs.declared.constraint.Constraint.{Constraint}
use Rattle.vipr_linear.specs.declared.rounding.Rounded.{Rounded}
use Rattle.vipr_linear.specs.declared.rounding.Rounded.TheVariants.{Row, Absurd}

-- the right-hand side is rounded; an equation whose right-hand side is not whole is absurd
abbrev pub IsRounding : Constraint → Rounded → Type 0
IsRounding c (Row d) = (d.row ≡ c.row) × (d.sense ≡ c.sense)
    × ((k : ℤ) × RoundsTo (sense_of c.sense) c.rhs k × (d.rhs ≡ whole k))
IsRounding c Absurd = (sense_of c.sense ≡ equal) × ¬ IsWhole c.rhs

-- what is absurd dominates every condition
abbrev pub RoundedDominates : Rounded → Condition → Type 0
RoundedDominates (Row c) d = Dominates (condition_of c) d
RoundedDominates Absurd d = Unit {0}

-- each mark says whether its place is one of these variables
abbrev pub MarksEach : List ℕ → List Bool → Type 0
MarksEach indices marks = (j : ℕ) → j < length marks
    → slice_index_or marks j false ≡ list_any (nat_eq j) indices

-- variables in rising order with their marks, and a row that is whole over them, if there is one
pub record AreIntegers (indices : List ℕ) (marks : List Bool) (row : Option Entries) : Type 0 where
  pub rising : IsStrictlyIncreasing indices
  pub marked : MarksEach indices marks
  pub whole : IfSome row (λ r. IsWholeRow (from_list indices) (at r))
