-- All tests of a certificate: of its solutions, its primal side, its steps and its dual side
use Rattle.std.specs.Prelude.{◌≡◌, ℕ, suc, List, [], ◌∷◌, ◌++◌, length, map, flat_map, Option, Some}
use Rattle.std.specs.Prelude.{None, slice_index_or}
use Rattle.std.specs.{FinMap.empty, List.range_with_len, Option.option_map}
use Rattle.vipr_spec.specs.Constraint.{Profile, Sense, equal, Row, at, Constraint, Condition}
use Rattle.vipr_spec.specs.Constraint.{condition, value, IsTrueAt, ValueFits}
use Rattle.vipr_spec.specs.Certificate.{Name, Named, Claim, infeasible, range, Problem, variables}
use Rattle.vipr_spec.specs.Certificate.{integer_variables, Derivation, Certificate, known_at}
use Rattle.vipr_spec.specs.Certificate.{constraint_at, dual_bound, primal_bound, stays}
use Rattle.vipr_spec.specs.Certificate.{objective_constraint, MeetsPrimal, NeedsGoal, ProvesDual}
use Rattle.vipr_spec.specs.Steps.{before, StepTest, PassesStep, step_tests, StepDetail, Shows}
use Rattle.vipr_spec.specs.{Fraction.ℚ, Fraction.zero_ℚ, Fraction.IsWhole, Reading.Fault}
use Rattle.vipr_spec.specs.Causes as cause

-- ---- what is tested of a listed solution

pub data SolutionTest : Type 0 where
  -- coordinate j is whole
  whole_at : (j : ℕ) → SolutionTest
  -- the value of constraint i fits, and constraint i is true
  value_fits : (i : ℕ) → SolutionTest
  holds : (i : ℕ) → SolutionTest
  -- the objective's value fits
  objective_fits : SolutionTest

-- constraint i of the problem, and 0 = 0 past the end
abbrev pub given_at : Problem → ℕ → Constraint
given_at p i =
    slice_index_or (map (λ n. n.item) p.constraints) i
    (record { row = empty; sense = equal; bound = zero_ℚ })

abbrev pub PassesSolution : Problem → Row → SolutionTest → Type 0
PassesSolution p s (whole_at j) = IsWhole (at s j)
PassesSolution p s (value_fits i) = ValueFits (variables p) (at (given_at p i).row) (at s)
PassesSolution p s (holds i) = IsTrueAt (variables p) (condition (given_at p i)) (at s)
PassesSolution p s objective_fits = ValueFits (variables p) (at p.objective) (at s)

abbrev pub solution_cause : SolutionTest → ℕ
solution_cause (whole_at j) = cause.solution_not_whole
solution_cause (value_fits i) = cause.solution_overflow
solution_cause (holds i) = cause.solution_breaks
solution_cause objective_fits = cause.solution_overflow

-- the integer variables in rising order, then the constraints in their order, then the objective
abbrev pub solution_tests : Problem → List SolutionTest
solution_tests p =
    map whole_at (integer_variables p)
    ++ flat_map (λ i. value_fits i ∷ holds i ∷ []) (range_with_len 0 (length p.constraints))
    ++ objective_fits ∷ []

-- ---- what is tested of a certificate, and of the text that it is read from

pub data Test : Type 0 where
  -- the text goes on as it must: it doesn't
  spelled : Fault → Test
  -- of solution i, counted from 0
  of_solution : (i : ℕ) → Row → SolutionTest → Test
  -- a solution's bound is met
  meets_primal : Test
  -- of derivation k, by its index among the constraints
  of_step : (k : ℕ) → StepTest → Test
  -- some constraint proves the dual side
  meets_dual : Test

-- in the certificate as far as it was read; a step is tested in the certificate before it
abbrev pub Passes : Profile → Certificate → Test → Type 0
Passes P c (spelled f) = ⊥
Passes P c (of_solution i s t) = PassesSolution c.problem s t
Passes P c meets_primal = MeetsPrimal c.problem c.solutions c.problem.claim
Passes P c (of_step k t) = PassesStep P (before c k) (constraint_at c k) t
Passes P c meets_dual = NeedsGoal c.problem c.problem.claim → (goal : ℕ) × ProvesDual P c goal

-- the tests of items, numbered from i on
unfoldable pub numbered_tests : {A : Type 0} → (ℕ → A → List Test) → ℕ → List A → List Test
numbered_tests tests i [] = []
numbered_tests tests i (x ∷ xs) = tests i x ++ numbered_tests tests (suc i) xs

abbrev pub tests_of_solution : Problem → ℕ → Named Row → List Test
tests_of_solution p i s = map (of_solution i s.item) (solution_tests p)

abbrev pub tests_of_derivation : ℕ → Derivation → List Test
tests_of_derivation k d = map (of_step k) (step_tests d.reason)

-- of each solution, of the primal bound, of each derivation, of the dual side
abbrev pub proof_tests : Certificate → List Test
proof_tests c =
    numbered_tests (tests_of_solution c.problem) 0 c.solutions
    ++ (meets_primal
    ∷ (numbered_tests tests_of_derivation (length c.problem.constraints) c.derivations
    ++ meets_dual ∷ []))

-- ---- what is shown of a test that fails, beside its cause and place

pub data Detail : Type 0 where
  -- of a text that is verified, or that doesn't go on as it must
  none : Detail
  -- a variable that is to be whole, and its value
  not_whole : (solution : Name) (variable : ℕ) (name : Name) (value : ℚ) → Detail
  -- a constraint, and both its sides
  breaks : (solution : Name) (constraint : ℕ) (name : Name) (left : ℚ) (sense : Sense) (right : ℚ)
      → Detail
  -- a constraint, or none for the objective
  overflows : (solution : Name) (at : Option (ℕ × Name)) → Detail
  step : (derivation : Name) (what : StepDetail) → Detail
  -- the goal that was needed; none is the absurdity
  no_proof : Option Condition → Detail
  -- the primal bound
  no_primal : ℚ → Detail

-- no bytes past the end
abbrev pub name_at : List Name → ℕ → Name
name_at names i = slice_index_or names i []

abbrev pub names_of : {A : Type 0} → List (Named A) → List Name
names_of items = map (λ n. n.name) items

-- of the solution s of this name
abbrev pub solution_detail : Problem → Name → Row → SolutionTest → Detail
solution_detail p name s (whole_at j) = not_whole name j (name_at p.names j) (at s j)
solution_detail p name s (value_fits i) =
    overflows name (Some (i, name_at (names_of p.constraints) i))
solution_detail p name s (holds i) =
    let c = given_at p i in
    breaks name i (name_at (names_of p.constraints) i)
    (value (variables p) (at c.row) (at s)) c.sense c.bound
solution_detail p name s objective_fits = overflows name None

-- what the goal must dominate; none is the absurdity
abbrev pub goal_needed_by : Problem → Claim → Option Condition
goal_needed_by p infeasible = None
goal_needed_by p (range lower upper) =
    option_map (objective_constraint p (stays p.direction)) (dual_bound p.direction lower upper)

abbrev pub finite_primal : Problem → Claim → Option ℚ
finite_primal p infeasible = None
finite_primal p (range lower upper) = primal_bound p.direction lower upper

-- this is shown of the test that fails, in the certificate as far as it was read
abbrev pub Explains : Certificate → Test → Detail → Type 0
Explains c (spelled f) x = x ≡ none
Explains c (of_solution i s t) x =
    x ≡ solution_detail c.problem (name_at (names_of c.solutions) i) s t
Explains c meets_primal x =
    (bound : ℚ) × (finite_primal c.problem c.problem.claim ≡ Some bound) × (x ≡ no_primal bound)
Explains c (of_step k t) x =
    (what : StepDetail) × Shows (before c k) (constraint_at c k) t what
    × (x ≡ step (known_at c k).name what)
Explains c meets_dual x = x ≡ no_proof (goal_needed_by c.problem c.problem.claim)
