-- What `apply` answers of the derivation that comes next
use Rattle.std.specs.Prelude.{◌≡◌, ℕ, ◌≤◌, ◌⊎◌, IsTrue, length, List, [], ◌∷◌, ◌++◌, flat_map}
use Rattle.std.specs.Prelude.{Option, Some, None, Result, Ok, Err, IfOk, IfErr, MatchResult}
use Rattle.std.specs.Ordering.{nat_cmp}
use Rattle.std.specs.FinSet as set
use Rattle.vipr_spec.specs.Constraint.{Profile, Condition, condition, Entry as Summand, SumOfFits}
use Rattle.vipr_spec.specs.Constraint.{Dominates, DominatesRounded, IsWholeRow, Ints}
use Rattle.vipr_spec.specs.Certificate.{Problem, Reason, uns, sol, Derivation, Certificate, lin}
use Rattle.vipr_spec.specs.Certificate.{rnd, is_live, count, is_assumption, NamesEarlier}
use Rattle.vipr_spec.specs.Steps.{PassesStep, with_next, StepTest, earlier, live, assumed, listed}
use Rattle.vipr_spec.specs.Steps.{step_tests, RefersBack, FirstFailing, step_cause, Shows, Refuses}
use Rattle.vipr_spec.specs.Steps.{StepDetail, index, position, sum, both, compared, nothing, by_sum}
use Rattle.vipr_spec.specs.Steps.{roundable, by_rounding, reference_tests}
use Rattle.vipr_spec.specs.{Fraction.ℚ, Soundness.IsSound, Soundness.IsBestValue}
use Rattle.vipr_spec.specs.Causes as cause
use Rattle.vipr_linear.specs.declared.constraint.Constraint.{Constraint}
use Rattle.vipr_linear.specs.{Accumulator.IsSuitable, Constraint.condition_of}
use Rattle.vipr_cert.specs.Items.{reason_of, derivation_of}
use Rattle.vipr_cert.specs.declared.items.Derivation.{Derivation as Step}
use Rattle.vipr_rules.specs.declared.error.RuleError.TheVariants.{NotEarlier, Dropped}
use Rattle.vipr_rules.specs.declared.error.RuleError.TheVariants.{NotAssumption, MixedSigns}
use Rattle.vipr_rules.specs.declared.error.RuleError.TheVariants.{Overflow, NotRoundable, NotSplit}
use Rattle.vipr_rules.specs.declared.error.RuleError.TheVariants.{NotDominated, NoSolution, Memory}
use Rattle.vipr_rules.specs.declared.sum.Computed.TheVariants.{Sum, Rounding}
use Rattle.vipr_rules.specs.{Context.IsContextOf, Context.IsSetByReason, Soundness.HasSoundRows}
use Rattle.vipr_rules.specs.{Soundness.IsSoundRow, declared.context.Context.Context}
use Rattle.vipr_rules.specs.{declared.error.RuleError.RuleError, declared.sum.Computed.Computed}
use Rattle.vipr_table.specs.History.{IsEntryOf, IsTableOf}
use Rattle.vipr_table.specs.{Table.Table, declared.rows.Entry.Entry}

-- ---- what an error says

-- the cause and the detail, none if a growth was refused
abbrev pub shown_by : RuleError → Option (ℕ × StepDetail)
shown_by (NotEarlier i) = Some (cause.not_earlier, index i)
shown_by (Dropped i) = Some (cause.dropped, index i)
shown_by (NotAssumption l) = Some (cause.not_assumption, index l)
shown_by (MixedSigns n) = Some (cause.mixed_signs, position n)
shown_by (Overflow n) = Some (cause.overflow, position n)
shown_by (NotRoundable x) = Some (cause.not_roundable, sum (condition_of x.value))
shown_by (NotSplit x y) =
    Some (cause.not_split, both (condition_of x.value) (condition_of y.value))
shown_by (NotDominated x y) =
    Some (cause.not_dominated, compared (condition_of x.value) (condition_of y.value))
shown_by NoSolution = Some (cause.no_solution, nothing)
shown_by Memory = None

-- a test of the derivation d fails first, and the error says which, and its detail
abbrev pub IsRefusalIn : Profile → Certificate → Derivation → RuleError → Type 0
IsRefusalIn P c d e =
    (n : ℕ) × (x : StepDetail) × (shown_by e ≡ Some (n, x)) × Refuses P c d n x

-- of the derivation d, that comes after the certificate c: it passes all tests, and this is kept of
-- it; or a test fails; or a growth was refused
abbrev pub DecidesIn : Profile → Certificate → Derivation → Result Entry RuleError → Type 0
DecidesIn P c d (Ok e) =
    FirstFailing (PassesStep P c (condition d.stated)) (step_tests d.reason) None
    × IsEntryOf (with_next c d) (count c) e
DecidesIn P c d (Err e) = (e ≡ Memory) ⊎ IsRefusalIn P c d e

-- If each derived constraint that is live before it is true at every admitted point at which the
-- assumptions are true that it rests on, the derivation that comes next is, too.
abbrev pub KeepsSound : Certificate → Derivation → Type 0
KeepsSound c d =
    ((i : ℕ) → length c.problem.constraints ≤ i → IsTrue (is_live c (count c) i) → IsSound c i)
    → IsSound (with_next c d) (count c)

-- ---- some of the tests of a derivation

abbrev pub PassesTestsIn : Profile → Certificate → Derivation → List StepTest → Type 0
PassesTestsIn P c d ts = FirstFailing (PassesStep P c (condition d.stated)) ts None

-- the error says that this test fails
abbrev pub ReportsTest : Certificate → Derivation → RuleError → StepTest → Type 0
ReportsTest c d e t =
    (x : StepDetail) × (shown_by e ≡ Some (step_cause t, x)) × Shows c (condition d.stated) t x

-- of these tests one fails first, and the error says which
abbrev pub StopsIn : Profile → Certificate → Derivation → List StepTest → RuleError → Type 0
StopsIn P c d ts e = (t : StepTest) × FirstFailing (PassesStep P c (condition d.stated)) ts (Some t)
    × ReportsTest c d e t

-- constraint i comes before, and is live
abbrev pub index_tests : ℕ → List StepTest
index_tests i = earlier i ∷ live i ∷ []

-- with the last of these summands, at this position, the sum is not suitable, or doesn't fit
abbrev pub SumStops : List Summand → ℕ → RuleError → Type 0
SumStops es n e =
    ((e ≡ MixedSigns n) × ¬ IsSuitable es) ⊎ ((e ≡ Overflow n) × IsSuitable es × ¬ SumOfFits es)

-- the error says that the one doesn't dominate the other, as it is
abbrev pub IsNotDominated : Constraint → Constraint → RuleError → Type 0
IsNotDominated computed stated e =
    (shown_by e
    ≡ Some (cause.not_dominated, compared (condition_of computed) (condition_of stated)))
    × ¬ Dominates (condition_of computed) (condition_of stated)

-- the tests of what a reason names, which come first
abbrev pub named_tests : Reason → List StepTest
named_tests (lin es) = flat_map reference_tests es
named_tests (rnd es) = flat_map reference_tests es
named_tests (uns i1 l1 i2 l2) =
    index_tests i1 ++ index_tests l1 ++ index_tests i2 ++ index_tests l2
named_tests _ = []

-- the first tests, which take no memory
abbrev pub free_tests : Reason → List StepTest
free_tests (uns i1 l1 i2 l2) = named_tests (uns i1 l1 i2 l2) ++ assumed l1 ∷ assumed l2 ∷ []
free_tests sol = listed ∷ []
free_tests _ = []

-- Of a derivation by the reason r: all its tests pass, and the set is what it rests on; or a test
-- fails; or a growth was refused, behind the tests that take no memory.
abbrev pub IsRuledBy : Profile → Certificate → Derivation → Reason
    → Result (set.FinSet nat_cmp) RuleError → Type 0
IsRuledBy P c d r (Ok s) = PassesTestsIn P c d (step_tests r) × IsSetByReason c r s
IsRuledBy P c d r (Err e) =
    ((e ≡ Memory) × PassesTestsIn P c d (free_tests r)) ⊎ StopsIn P c d (step_tests r) e

-- so it is of each derivation that states this constraint, after a certificate of this context
abbrev pub IsRuledIn : {S : Type 0} → (S → Table) → Context S → Constraint → Reason
    → Result (set.FinSet nat_cmp) RuleError → Type 0
IsRuledIn table x stated r result = (P : Profile) (c : Certificate) (d : Derivation)
    → IsContextOf table P c x → condition_of stated ≡ condition d.stated → IsRuledBy P c d r result

-- Of a derivation by the reason r: the tests of what it names pass, and the set is what it rests
-- on; or one of them fails; or a growth was refused.
abbrev pub FindsSetBy : Profile → Certificate → Derivation → Reason
    → Result (set.FinSet nat_cmp) RuleError → Type 0
FindsSetBy P c d r result =
    MatchResult result (λ s. PassesTestsIn P c d (named_tests r) × IsSetByReason c r s)
    (λ e. (e ≡ Memory) ⊎ StopsIn P c d (named_tests r) e)

-- so it is of the derivation d, that comes after the certificate c: it names earlier constraints
-- alone, or is refused
abbrev pub FindsSetIn : Profile → Certificate → Derivation → Result (set.FinSet nat_cmp) RuleError
    → Type 0
FindsSetIn P c d result = FindsSetBy P c d d.reason result
    × MatchResult result (λ _. NamesEarlier (count c) (Some d.reason))
    (λ e. (e ≡ Memory) ⊎ IsRefusalIn P c d e)

-- ---- what is computed of the entries

abbrev pub reason_by : Computed → List (ℕ × ℚ) → Reason
reason_by Sum es = lin es
reason_by Rounding es = rnd es

-- the tests behind those of the sum
abbrev pub computed_tests : Computed → List (ℕ × ℚ) → List StepTest
computed_tests Sum es = by_sum es ∷ []
computed_tests Rounding es = roundable es ∷ by_rounding es ∷ []

-- what is computed of this sum dominates a condition
abbrev pub DominatesBy : Computed → Ints → Condition → Condition → Type 0
DominatesBy Sum ints x stated = Dominates x stated
DominatesBy Rounding ints x stated = IsWholeRow ints x.row × DominatesRounded x stated

-- ---- what a call answers

-- what is kept of a derivation that rests on these assumptions
abbrev pub entry_resting_on : Step → set.FinSet nat_cmp → Entry
entry_resting_on step s = record {
  constraint = step.constraint;
  assumptions = s;
  is_assumption = is_assumption (Some (reason_of step.reason));
  last = step.last;
}

-- the answer with what is kept, if these assumptions are answered
abbrev pub answer_with_entry : Step → Result (set.FinSet nat_cmp) RuleError → Result Entry RuleError
answer_with_entry step (Ok s) = Ok (entry_resting_on step s)
answer_with_entry step (Err e) = Err e

-- of the derivation `step`, by a profile, against a problem, the best objective value among the
-- listed solutions and the table of earlier derivations
pub record Applies (P : Profile) (p : Problem) (best : Option ℚ) (table : Table) (step : Step)
    (result : Result Entry RuleError) : Type 0 where
  -- Over the table of a certificate the answer is that of the definitions.
  pub decided : (c : Certificate) → c.problem ≡ p → IsTableOf c table → RefersBack c
      → IsBestValue p c.solutions best → DecidesIn P c (derivation_of step) result
  -- That a growth was refused is no answer before the tests that take no memory pass.
  pub memory : (c : Certificate) → c.problem ≡ p → IsTableOf c table
      → IsBestValue p c.solutions best
      → IfErr result (λ e. e ≡ Memory
      → PassesTestsIn P c (derivation_of step) (free_tests (reason_of step.reason)))
  -- What is answered is sound if the live constraints before it are.
  pub sound : (c : Certificate) → c.problem ≡ p → IsTableOf c table → RefersBack c
      → IsBestValue p c.solutions best → IfOk result (λ _. KeepsSound c (derivation_of step))
  -- So it is over any table and best value: `says` is what the rows state, and what is answered
  -- states at the next index.
  pub sound_rows : IfOk result (λ e. (says : ℕ → Condition) → HasSoundRows p best table says
      → says table.next ≡ condition_of e.constraint → IsSoundRow p best says e)
  pub stated : IfOk result (λ e. e.constraint ≡ step.constraint)
