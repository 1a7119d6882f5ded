-- The test of a listed solution.
use Rattle.std.specs.Prelude.{◌≡◌, ℕ, List, [], ◌∷◌, flat_map, Option, Some, None, SomeIff}
use Rattle.vipr_spec.specs.Constraint.{Row, Point, value, ValueFits}
use Rattle.vipr_spec.specs.Tests.{Detail, not_whole, breaks, overflows, name_at, names_of}
use Rattle.vipr_spec.specs.Tests.{solution_detail, SolutionTest, whole_at, value_fits, holds}
use Rattle.vipr_spec.specs.Tests.{objective_fits, PassesSolution}
use Rattle.vipr_spec.specs.{Certificate.Name, Certificate.Problem, Fraction.ℚ, Steps.FirstFailing}
use Rattle.std.specs.List.{range_with_len}
use Rattle.vipr_linear.specs.Constraint.{sense_of}
use Rattle.vipr_rules.specs.declared.solution.SolutionError.{SolutionError}
use Rattle.vipr_rules.specs.declared.solution.SolutionError.TheVariants.{NotWhole, Breaks, Overflow}

-- the test that fails
abbrev pub test_of : SolutionError → SolutionTest
test_of (NotWhole j v) = whole_at j
test_of (Breaks i left sense right) = holds i
test_of (Overflow (Some i)) = value_fits i
test_of (Overflow None) = objective_fits

-- what the error shows, of the solution of this name
abbrev pub solution_shown : Problem → Name → SolutionError → Detail
solution_shown p name (NotWhole j v) = not_whole name j (name_at p.names j) v
solution_shown p name (Breaks i left sense right) =
    breaks name i (name_at (names_of p.constraints) i) left (sense_of sense) right
solution_shown p name (Overflow (Some i)) =
    overflows name (Some (i, name_at (names_of p.constraints) i))
solution_shown p name (Overflow None) = overflows name None

-- all of these tests pass
abbrev pub PassesAll : Problem → Row → List SolutionTest → Type 0
PassesAll p s ts = FirstFailing (PassesSolution p s) ts None

-- this error says which of them fails first, and shows what there is to show of it
abbrev pub FailsBy : Problem → Row → List SolutionTest → SolutionError → Type 0
FailsBy p s ts e = FirstFailing (PassesSolution p s) ts (Some (test_of e))
    × ((name : Name) → solution_shown p name e ≡ solution_detail p name s (test_of e))

-- this is the value of a row at a point, none if it doesn't fit
abbrev pub IsValueOf : ℕ → (ℕ → ℚ) → Point → Option ℚ → Type 0
IsValueOf n row x v = SomeIff v (ValueFits n row x) (value n row x)

-- the tests of constraint i
abbrev pub tests_at : ℕ → List SolutionTest
tests_at i = value_fits i ∷ holds i ∷ []

-- the tests of the first n constraints
abbrev pub tests_below : ℕ → List SolutionTest
tests_below n = flat_map tests_at (range_with_len 0 n)
