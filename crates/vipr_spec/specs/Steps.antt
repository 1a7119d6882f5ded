-- The tests of a step in the certificate before it, and what the first of them that fails answers
use Rattle.std.specs.Prelude.{◌≡◌, ◌≢◌, ℕ, ◌-◌, ◌<◌, ◌⊎◌, ℤ, if◌then◌else◌, IsTrue, List, [], ◌∷◌}
use Rattle.std.specs.Prelude.{◌++◌, length, take, flat_map, Option, Some, None, Contains}
use Rattle.vipr_spec.specs.Constraint.{Profile, Sense, Row, Condition, condition, HasSense}
use Rattle.vipr_spec.specs.Constraint.{SumOfFits, sum_of, IsWholeRow, RoundsTo, IsSplit, Dominates}
use Rattle.vipr_spec.specs.Constraint.{Combines, CombinesRounded}
use Rattle.vipr_spec.specs.Certificate.{Named, Reason, asm, lin, rnd, uns, sol, Derivation}
use Rattle.vipr_spec.specs.Certificate.{References, no_references, by_entries, by_branches}
use Rattle.vipr_spec.specs.Certificate.{reason_references, Certificate, constraint_at, reason_at}
use Rattle.vipr_spec.specs.Certificate.{entries, is_live, IsBest, cutoff, count, NamesEarlier}
use Rattle.vipr_spec.specs.Certificate.{RestsOn, IsGoodStep}
use Rattle.vipr_spec.specs.{Fraction.ℚ, Fraction.zero_ℚ, Fraction.whole, Reading.is_nonzero}
use Rattle.vipr_spec.specs.Causes as cause

-- ---- the certificate before a step

-- with more derivations at the end
abbrev pub with_more : Certificate → List Derivation → Certificate
with_more c ds = record c { derivations = c.derivations ++ ds }

abbrev pub with_next : Certificate → Derivation → Certificate
with_next c d = with_more c (d ∷ [])

-- with the derivations before constraint k alone
abbrev pub before : Certificate → ℕ → Certificate
before c k = record c { derivations = take (k - length c.problem.constraints) c.derivations }

-- ---- tests

pub data StepTest : Type 0 where
  -- constraint i comes before
  earlier : (i : ℕ) → StepTest
  -- constraint i is live before
  live : (i : ℕ) → StepTest
  -- constraint l is an assumption
  assumed : (l : ℕ) → StepTest
  -- the sum of these entries, the first so many of the reason, is suitable
  suitable : List (ℕ × ℚ) → StepTest
  -- the products and partial sums of these entries fit
  fitting : List (ℕ × ℚ) → StepTest
  -- the sum of all entries can be rounded
  roundable : List (ℕ × ℚ) → StepTest
  -- the constraints l1 and l2 split
  split : (l1 l2 : ℕ) → StepTest
  -- a solution is listed
  listed : StepTest
  -- dominated is the stated constraint: by the sum, the rounded sum, constraint i, the cutoff
  by_sum : List (ℕ × ℚ) → StepTest
  by_rounding : List (ℕ × ℚ) → StepTest
  by_constraint : (i : ℕ) → StepTest
  by_cutoff : StepTest

-- what is shown of a test that fails, beside its cause
pub data StepDetail : Type 0 where
  index : ℕ → StepDetail
  -- an entry's, counted from 0
  position : ℕ → StepDetail
  sum : Condition → StepDetail
  -- both assumptions
  both : Condition → Condition → StepDetail
  -- the computed and the stated constraint
  compared : Condition → Condition → StepDetail
  nothing : StepDetail

-- the entries are suitable, and this is their sum
abbrev pub IsSum : Certificate → List (ℕ × ℚ) → Condition → Type 0
IsSum c es x = (s : Sense) × HasSense (entries c es) s × (x ≡ sum_of (entries c es) s)

-- Of the step that states d next after the certificate c: what passes a test, the cause of one that
-- fails it, and what is shown of that.
pub record TestMeaning : Type 1 where
  pub passed : Profile → Certificate → Condition → Type 0
  pub cause : ℕ
  pub shown : Certificate → Condition → StepDetail → Type 0

abbrev means : ℕ → (Profile → Certificate → Condition → Type 0)
    → (Certificate → Condition → StepDetail → Type 0) → TestMeaning
means n Passed Shown = record { passed = Passed; cause = n; shown = Shown }

abbrev pub meaning : StepTest → TestMeaning
meaning (earlier i) = means cause.not_earlier (λ P c d. i < count c) (λ c d x. x ≡ index i)
meaning (live i) = means cause.dropped (λ P c d. IsTrue (is_live c (count c) i))
    (λ c d x. x ≡ index i)
meaning (assumed l) = means cause.not_assumption (λ P c d. reason_at c l ≡ Some asm)
    (λ c d x. x ≡ index l)
meaning (suitable es) = means cause.mixed_signs (λ P c d. (s : Sense) × HasSense (entries c es) s)
    (λ c d x. x ≡ position (length es - 1))
meaning (fitting es) = means cause.overflow (λ P c d. SumOfFits (entries c es))
    (λ c d x. x ≡ position (length es - 1))
meaning (roundable es) = means cause.not_roundable
    (λ P c d. (s : Sense) × HasSense (entries c es) s
    × IsWholeRow c.problem.integers (sum_of (entries c es) s).row)
    (λ c d x. (y : Condition) × IsSum c es y × (x ≡ sum y))
meaning (split l1 l2) = means cause.not_split
    (λ P c d. IsSplit P c.problem.integers (constraint_at c l1) (constraint_at c l2))
    (λ c d x. x ≡ both (constraint_at c l1) (constraint_at c l2))
meaning listed = means cause.no_solution (λ P c d. 0 < length c.solutions) (λ c d x. x ≡ nothing)
meaning (by_sum es) = means cause.not_dominated (λ P c d. Combines (entries c es) d)
    (λ c d x. (y : Condition) × IsSum c es y × (x ≡ compared y d))
meaning (by_rounding es) = means cause.not_dominated
    (λ P c d. CombinesRounded c.problem.integers (entries c es) d)
    (λ c d x. (y : Condition) × (k : ℤ) × IsSum c es y × RoundsTo y.sense y.bound k
    × (x ≡ compared (record y { bound = whole k }) d))
meaning (by_constraint i) = means cause.not_dominated (λ P c d. Dominates (constraint_at c i) d)
    (λ c d x. x ≡ compared (constraint_at c i) d)
meaning by_cutoff = means cause.not_dominated
    (λ P c d. (s : Named Row) × IsBest c s × Dominates (cutoff c.problem s) d)
    (λ c d x. (s : Named Row) × IsBest c s × (x ≡ compared (cutoff c.problem s) d))

abbrev pub PassesStep : Profile → Certificate → Condition → StepTest → Type 0
PassesStep P c d t = (meaning t).passed P c d

abbrev pub step_cause : StepTest → ℕ
step_cause t = (meaning t).cause

-- what is shown of the test that fails
abbrev pub Shows : Certificate → Condition → StepTest → StepDetail → Type 0
Shows c d t x = (meaning t).shown c d x

-- each index of a reason must be earlier and then live; one with the multiplier 0 only earlier
abbrev pub reference_tests : ℕ × ℚ → List StepTest
reference_tests e = if is_nonzero e then earlier e.0 ∷ live e.0 ∷ [] else earlier e.0 ∷ []

-- entry by entry, the signs first
unfoldable pub entry_tests : List (ℕ × ℚ) → List (ℕ × ℚ) → List StepTest
entry_tests front [] = []
entry_tests front (e ∷ es) =
    suitable (front ++ e ∷ []) ∷ fitting (front ++ e ∷ []) ∷ entry_tests (front ++ e ∷ []) es

abbrev pub sum_tests : List (ℕ × ℚ) → List StepTest
sum_tests es = flat_map reference_tests es ++ entry_tests [] es

-- the tests of every reason
abbrev pub step_tests : Reason → List StepTest
step_tests asm = []
step_tests (lin es) = sum_tests es ++ by_sum es ∷ []
step_tests (rnd es) = sum_tests es ++ roundable es ∷ by_rounding es ∷ []
step_tests (uns i1 l1 i2 l2) =
    earlier i1 ∷ live i1 ∷ earlier l1 ∷ live l1
    ∷ earlier i2 ∷ live i2 ∷ earlier l2 ∷ live l2
    ∷ assumed l1 ∷ assumed l2 ∷ split l1 l2 ∷ by_constraint i1 ∷ by_constraint i2 ∷ []
step_tests sol = listed ∷ by_cutoff ∷ []

-- ---- the first test that fails

-- each test before it passes, and it fails; or each passes
abbrev pub FirstFailing : {T : Type 0} → (T → Type 0) → List T → Option T → Type 0
FirstFailing Passes [] found = found ≡ None
FirstFailing Passes (t ∷ ts) found =
    (Passes t × FirstFailing Passes ts found) ⊎ ((¬ Passes t) × (found ≡ Some t))

-- a test fails first, and this is its cause and detail
abbrev pub Refuses : Profile → Certificate → Derivation → ℕ → StepDetail → Type 0
Refuses P c d number x =
    (t : StepTest)
    × FirstFailing (PassesStep P c (condition d.stated)) (step_tests d.reason) (Some t)
    × (number ≡ step_cause t) × Shows c (condition d.stated) t x

-- ---- a certificate, step by step

-- the derivation d can come next
abbrev pub IsGoodNext : Profile → Certificate → Derivation → Type 0
IsGoodNext P c d = IsGoodStep P c (count c) d.reason (condition d.stated)

-- each step passes all its tests in the certificate before it
abbrev pub PassesSteps : Profile → Certificate → Type 0
PassesSteps P c =
    (k : ℕ) (r : Reason) → reason_at c k ≡ Some r
    → FirstFailing (PassesStep P (before c k) (constraint_at c k)) (step_tests r) None

-- each reason names constraints before its own alone
abbrev pub RefersBack : Certificate → Type 0
RefersBack c = (k : ℕ) → NamesEarlier k (reason_at c k)

-- ---- assumption sets, by the reason

-- some entry with a nonzero multiplier rests on a
abbrev pub SomeRestsOn : Certificate → List (ℕ × ℚ) → ℕ → Type 0
SomeRestsOn c es a = (e : ℕ × ℚ) × Contains es e × (e.1 ≢ zero_ℚ) × RestsOn c e.0 a

-- what is named rests on a, a branch without its assumption
abbrev pub RestsThrough : Certificate → References → ℕ → Type 0
RestsThrough c no_references a = ⊥
RestsThrough c (by_entries es) a = SomeRestsOn c es a
RestsThrough c (by_branches i1 l1 i2 l2) a =
    (RestsOn c i1 a × (a ≢ l1)) ⊎ (RestsOn c i2 a × (a ≢ l2))

-- what constraint i, with this reason, rests on
abbrev pub RestsBy : Certificate → ℕ → Option Reason → ℕ → Type 0
RestsBy c i None a = ⊥
RestsBy c i (Some asm) a = i ≡ a
RestsBy c i (Some r) a = RestsThrough c (reason_references r) a
