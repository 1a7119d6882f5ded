-- Two constraints that bound one row from both sides
use Rattle.std.specs.Prelude.{◌≡◌, ℕ}
use Rattle.vipr_spec.specs.Constraint.{Ints, Condition, at_most, at_least, IsWholeRow}

-- a x at most something and a x at least something, where a x is whole
abbrev pub BoundsBothSides : Ints → Condition → Condition → Type 0
BoundsBothSides integers low high =
    ((j : ℕ) → low.row j ≡ high.row j) × IsWholeRow integers low.row
    × ((low.sense ≡ at_most) × (high.sense ≡ at_least))
