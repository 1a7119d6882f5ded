-- A checker's state, call by call
use Rattle.std.proofs.Common.{arith}
use Rattle.std.proofs.Common.{◌≡◌, ℕ, ◌≤◌, Bool, true, false, List, [], ◌∷◌, ◌++◌, length, Option}
use Rattle.std.proofs.Common.{Some, None, Result, Ok, Err, refl, sym, ◌∙◌, ap, subst, inl, inr}
use Rattle.std.specs.Prelude.{◌⊎◌, MatchOption}
use Rattle.vipr_spec.specs.Certificate.{Named, Problem, Derivation, Certificate, IsProof, count}
use Rattle.vipr_spec.specs.Tests.{solution_tests, Passes as PassesTest, meets_dual}
use Rattle.vipr_spec.specs.{Constraint.Profile, Constraint.Row, Fraction.ℚ, Steps.step_tests}
use Rattle.vipr_spec.specs.{Steps.with_next, Verdict.refuses, Verdict.at_derivation}
use Rattle.vipr_rules.specs.declared.solution.SolutionError.{SolutionError}
use Rattle.vipr_rules.specs.declared.error.RuleError.{RuleError}
use Rattle.vipr_rules.specs.{Apply.PassesTestsIn, Apply.StopsIn, Solution.test_of, Solution.FailsBy}
use Rattle.vipr_table.specs.Table.{advance_table, held_count}
use Rattle.vipr_rules.specs.declared.error.RuleError.TheVariants as rule
use Rattle.vipr_check.specs.declared.halt.Halt.TheVariants.{Refused, Memory}
use Rattle.vipr_check.specs.Halts.{halt_answer, later_answer, step_detail_of, rule_shown}
use Rattle.vipr_check.specs.Halts.{IsSolutionHalt, IsStepHalt, solution_halt, CanShow, CanShowHalt}
use Rattle.vipr_check.specs.Progress.{Progress, HasSolutions, HasSteps}
use Rattle.vipr_check.specs.State.{State, IsReached, HaltsBy, StopsSolution, StopsStep, TakesStep}
use Rattle.vipr_check.specs.{View.place_of, declared.halt.Halt.Halt, declared.halt.Stop.Stop}
use Rattle.vipr_check.proofs.ShownLemmas.{failing_within}
use Rattle.vipr_check.proofs.{CauseLemmas.cause_is, ProgressLemmas.held_next}

-- where a call went on, nothing had stopped it
pub runs_of : (halt : Option Halt) (x : Unit {0}) → MatchOption halt
    (◌≡◌ {A = Result (Unit {0}) Stop} (Ok x) (Ok tt))
    (λ h. ◌≡◌ {A = Result (Unit {0}) Stop} (Ok x) (Err (later_answer h))) → halt ≡ None
runs_of halt x h = grind arith

pub reached_still : (k : Progress) (b : Bool) (old new : Option Halt) → old ≡ None
    → CanShowHalt k.problem new → IsReached k b old → IsReached k b new
reached_still k b old new e shows is =
    record {
      solutions = λ n p. is.solutions (λ m. absurd (cc (e, m))) p;
      steps = λ n p. is.steps (λ m. absurd (cc (e, m))) p;
      shows = shows;
    }

pub proof_of : (c : Certificate) (k : Progress) → HasSteps c k → PassesTest k.profile c meets_dual
    → IsProof k.profile c
proof_of c k is dual = record {
  solutions = λ i d l. (is.feasible i d l).0;
  solutions_fit = λ i d l. (is.feasible i d l).1;
  steps = is.checked.steps;
  primal = is.primal;
  dual = dual;
}

-- ---- what stays

pub listed_frame : (v w : State) (k : Progress) (n : ℕ) (b : Option ℚ) → v ≡ w
    → k ≡ record v.progress { solutions = n; best = b }
    → record v { progress = k }
    ≡ record w { progress = record w.progress { solutions = n; best = b } }
listed_frame v w k n b e f = ap (λ x. record v { progress = x }) f
    ∙ ap (λ (u : State). record u { progress = record u.progress { solutions = n; best = b } }) e

pub halts_same : (v w : State) (k : Progress) (o : Option Halt) (h : Halt) (a : Stop) → v ≡ w
    → k ≡ v.progress → o ≡ Some h → a ≡ halt_answer h
    → HaltsBy w h (record v { progress = k; halt = o }) a
halts_same v w k o h a e f g says = grind arith

-- ---- stops

pub stops_solution : (p : Problem) (ss : List (Named Row)) (s : Named Row) (n : ℕ)
    (e : SolutionError) (h : Halt) → length ss ≡ n → IsSolutionHalt n s.name e h
    → FailsBy p s.item (solution_tests p) e → StopsSolution p ss s h
stops_solution p ss s n e h same is fails = grind arith

-- with the item's own name it stops for what the tests answered
pub solution_halted : (n : ℕ) (name : List ℕ) (e : SolutionError) (h : Halt)
    → h ≡ solution_halt n name e → IsSolutionHalt n name e h
solution_halted n name e h is = subst (IsSolutionHalt n name e) (sym is) (refl, refl)

pub stops_step : (P : Profile) (c : Certificate) (d : Derivation) (k : ℕ) (e : RuleError) (h : Halt)
    → count c ≡ k → IsStepHalt k d.name e h
    → (e ≡ rule.Memory) ⊎ StopsIn P c d (step_tests d.reason) e → StopsStep P c d h
stops_step P c d k e Memory same is w = tt
stops_step P c d k e (Refused r f) same is (inl m) =
    absurd (let n : rule_shown e ≡ None = ap rule_shown m in cc (n, is.3))
stops_step P c d k e (Refused r f) same is (inr x) = (
  is.0,
  is.1,
  e,
  is.3,
  x,
  ap (λ p. refuses (record { cause = r.cause; place = place_of p })) is.2
      ∙ ap (λ i. refuses (record { cause = r.cause; place = at_derivation i })) (sym same)
      ∙ ap (λ n. refuses (record { cause = n; place = at_derivation (count c) }))
      (cause_is c d e x.0 r.cause (step_detail_of is.0) x.2 is.3),
)

-- what is to be shown is there
step_can_show : (p : Problem) (k : ℕ) (name : List ℕ) (e : RuleError) (h : Halt)
    → IsStepHalt k name e h → CanShowHalt p (Some h)
step_can_show p k name e h is = grind arith

pub solution_can_show : (p : Problem) (s : Row) (n : ℕ) (name : List ℕ) (e : SolutionError)
    (h : Halt) → FailsBy p s (solution_tests p) e → IsSolutionHalt n name e h
    → CanShowHalt p (Some h)
solution_can_show p s n name e Memory fails is = tt
solution_can_show p s n name e (Refused r f) fails is =
    subst (CanShow p) (sym is.1) (failing_within p s (test_of e) fails.0)

-- after a derivation that failed a test all is as it was
pub reached_after : (k new : Progress) (b : Bool) (old o : Option Halt) (h : Halt) (n : ℕ)
    (name : List ℕ) (e : RuleError) → old ≡ None → IsReached k b old → IsStepHalt n name e h
    → (new ≡ k) ⊎ ((e ≡ rule.Memory) × (new ≡ record k { rows = advance_table k.rows }))
    → o ≡ Some h → IsReached new b o
reached_after k new b old o h n name e none is answers (inl f) g =
    subst (λ x. IsReached x b o) (sym f)
    (reached_still k b old o none
    (subst (CanShowHalt k.problem) (sym g) (step_can_show k.problem n name e h answers)) is)
reached_after k new b old o h n name e none is answers (inr f) g = grind arith

pub unstopped : (v w : State) (x : Unit {0}) → v ≡ w → MatchOption w.halt
    (◌≡◌ {A = Result (Unit {0}) Stop} (Ok x) (Ok tt))
    (λ h. ◌≡◌ {A = Result (Unit {0}) Stop} (Ok x) (Err (later_answer h))) → v.halt ≡ None
unstopped v w x is runs = ap (λ (s : State). s.halt) is ∙ runs_of w.halt x runs

-- ---- a solution, as `solution` and `take_solution` take it

pub reached_listed : (v w : State) (new : Progress) (x : Unit {0}) (s : Named Row) → v ≡ w
    → MatchOption w.halt (◌≡◌ {A = Result (Unit {0}) Stop} (Ok x) (Ok tt))
    (λ h. ◌≡◌ {A = Result (Unit {0}) Stop} (Ok x) (Err (later_answer h))) → w.in_solutions ≡ true
    → IsReached v.progress v.in_solutions v.halt
    → ((ss : List (Named Row)) → HasSolutions ss v.progress → HasSolutions (ss ++ s ∷ []) new)
    → IsReached new v.in_solutions v.halt
reached_listed v w new x s same runs phase is next = grind arith

-- ---- a derivation, as `derivation` and `take_from` take it

pub reached_next : (v w : State) (new : Progress) (x : Unit {0}) (d : Derivation) → v ≡ w
    → MatchOption w.halt (◌≡◌ {A = Result (Unit {0}) Stop} (Ok x) (Ok tt))
    (λ h. ◌≡◌ {A = Result (Unit {0}) Stop} (Ok x) (Err (later_answer h))) → w.in_solutions ≡ false
    → IsReached v.progress v.in_solutions v.halt
    → ((c : Certificate) → HasSteps c v.progress → HasSteps (with_next c d) new)
    → IsReached new v.in_solutions v.halt
reached_next v w new x d same runs phase is next = record {
  solutions = λ n e. absurd (let now = ap (λ (s : State). s.in_solutions) same in cc (now, phase, e));
  steps = λ n e. (let r = is.steps n e in (with_next r.0 d, next r.0 r.1));
  shows = subst (CanShowHalt new.problem) (sym (unstopped v w x same runs)) tt;
}

pub halts_at_step : (v w : State) (k : Progress) (o : Option Halt) (h : Halt) (a : Stop) (n : ℕ)
    (d : Derivation) (e : RuleError) (c : Certificate) → v ≡ w → IsStepHalt n d.name e h
    → (k ≡ v.progress)
    ⊎ ((e ≡ rule.Memory) × (k ≡ record v.progress { rows = advance_table v.progress.rows }))
    → o ≡ Some h → a ≡ halt_answer h → n ≡ v.progress.rows.next → HasSteps c w.progress
    → (HasSteps c v.progress → (e ≡ rule.Memory) ⊎ StopsIn v.progress.profile c d (step_tests d.reason) e)
    → HaltsBy w h (record v { progress = k; halt = o }) a × StopsStep w.progress.profile c d h
halts_at_step v w k o h a n d e c same is keeps set says at has why = grind (arith, stops_step)

pub takes_step : (v w : State) (new : Progress) (d : Derivation) (c : Certificate) → v ≡ w
    → HasSteps c w.progress
    → (HasSteps c v.progress
    → PassesTestsIn v.progress.profile c d (step_tests d.reason) × HasSteps (with_next c d) new)
    → held_count new.rows ≤ new.peak
    → new ≡ record v.progress { rows = new.rows; peak = new.peak; goal = new.goal }
    → TakesStep c d w (record v { progress = new }) (Ok tt)
takes_step v w new d c same has passes peak kept = grind (arith, held_next)
