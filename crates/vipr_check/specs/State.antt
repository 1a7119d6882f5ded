-- What a checker holds, and what each of its calls makes of it
use Rattle.std.specs.Prelude.{◌≡◌, ◌≢◌, ◌⊎◌, ◌≤◌, Bool, true, false, List, ◌∷◌, ◌++◌, [], length}
use Rattle.std.specs.Prelude.{Option, Some, None, Result, Ok, Err, refl}
use Rattle.std.specs.Coded.{Coded, code_by, coded×, coded_bool, coded_option}
use Rattle.vipr_spec.specs.Certificate.{Named, Problem, MeetsPrimal, Derivation, Certificate}
use Rattle.vipr_spec.specs.Certificate.{IsProof, count, count_held}
use Rattle.vipr_spec.specs.Steps.{with_next, step_tests, FirstFailing}
use Rattle.vipr_spec.specs.Tests.{Test, of_solution, of_step, meets_primal, meets_dual}
use Rattle.vipr_spec.specs.Tests.{Passes as PassesTest, PassesSolution, solution_tests}
use Rattle.vipr_spec.specs.Verdict.{Reports, refuses, answer_of_test}
use Rattle.vipr_spec.specs.{Checking.start, Constraint.Profile, Constraint.Row, Soundness.IsShown}
use Rattle.vipr_rules.specs.declared.solution.SolutionError.{SolutionError}
use Rattle.vipr_rules.specs.declared.error.RuleError.{RuleError}
use Rattle.vipr_rules.specs.{Apply.PassesTestsIn, Apply.StopsIn, Solution.test_of, Solution.FailsBy}
use Rattle.vipr_table.specs.Table.{advance_table, held_count as held_in}
use Rattle.vipr_check.specs.declared.halt.Finding.TheVariants.{Solution, Primal, Derived, Proof}
use Rattle.vipr_check.specs.declared.halt.Halt.TheVariants.{Refused, Memory}
use Rattle.vipr_check.specs.Halts.{halt_answer, later_answer, step_detail_of, rule_shown}
use Rattle.vipr_check.specs.Halts.{CanShowHalt}
use Rattle.vipr_check.specs.Progress.{Progress, progress_code, HasSolutions, HasSteps}
use Rattle.vipr_check.specs.{View.refusal_of, View.report_of, declared.detail.StepDetail.StepDetail}
use Rattle.vipr_check.specs.{declared.halt.Halt.Halt, declared.halt.Stop.Stop}
use Rattle.vipr_check.specs.{declared.verdict.Refusal.Refusal, declared.verdict.Report.Report}
use Rattle.vipr_check.specs.contracts.halt.Halt as halt

pub record State : Type 0 where
  pub progress : Progress
  -- whether solutions may still come
  pub in_solutions : Bool
  -- why it stopped, if it did
  pub halt : Option Halt

abbrev pub state_code : Coded State
state_code =
    code_by (Progress × (Bool × Option Halt))
    (coded× progress_code (coded× coded_bool (coded_option halt.the_row.coded)))
    (λ s. (s.progress, (s.in_solutions, s.halt)))
    (λ t. record { progress = t.0; in_solutions = t.1.0; halt = t.1.1 }) (λ _. refl)

-- unless memory was refused: it is at the solutions, and some were listed; or behind them, and some
-- certificate came so far; and what is to be shown of a stop is there
pub record IsReached (k : Progress) (in_solutions : Bool) (halt : Option Halt) : Type 0 where
  pub solutions : halt ≢ Some Memory → in_solutions ≡ true
      → (ss : List (Named Row)) × HasSolutions ss k
  pub steps : halt ≢ Some Memory → in_solutions ≡ false → (c : Certificate) × HasSteps c k
  pub shows : CanShowHalt k.problem halt

-- ---- stops

-- a stop keeps all else as it was, but if memory was refused, the rows may be those before the
-- next derivation is placed
pub record HaltsBy (old : State) (h : Halt) (new : State) (e : Stop) : Type 0 where
  pub kept : (new ≡ record old { halt = Some h })
      ⊎ ((h ≡ Memory) × (new ≡ record old {
        halt = Some h;
        progress = record old.progress { rows = advance_table old.progress.rows };
      }))
  pub answer : e ≡ halt_answer h

-- if it stopped before, it answers so and stays as it is
abbrev pub Repeats : {T : Type 0} → State → State → Result T Stop → Type 0
Repeats old new result = (h : Halt) → old.halt ≡ Some h
    → (result ≡ Err (later_answer h)) × (new ≡ old)

-- the refusal is that of the test
abbrev pub IsRefusalBy : Refusal → Test → Type 0
IsRefusalBy r t = refuses (refusal_of r) ≡ answer_of_test t

-- ---- a solution

-- the solution s fails a test after the solutions ss, or memory was refused
abbrev pub StopsSolution : Problem → List (Named Row) → Named Row → Halt → Type 0
StopsSolution p ss s (Refused r f) =
    (e : SolutionError) × (f ≡ Solution s.name e)
    × FailsBy p s.item (solution_tests p) e
    × IsRefusalBy r (of_solution (length ss) s.item (test_of e))
StopsSolution p ss s Memory = Unit {0}

-- the number and the best value may change
abbrev pub TakesSolution : List (Named Row) → Named Row → State → State → Result (Unit {0}) Stop
    → Type 0
TakesSolution ss s old new (Ok done) =
    FirstFailing (PassesSolution old.progress.problem s.item)
    (solution_tests old.progress.problem) None × HasSolutions (ss ++ s ∷ []) new.progress
    × (new ≡ record old {
      progress = record
          old.progress { solutions = new.progress.solutions; best = new.progress.best };
    })
TakesSolution ss s old new (Err e) = (h : Halt) × HaltsBy old h new e
    × StopsSolution old.progress.problem ss s h

-- ---- the end of the solutions

abbrev pub StopsEnd : Problem → List (Named Row) → Halt → Type 0
StopsEnd p ss (Refused r f) = (f ≡ Primal) × (¬ MeetsPrimal p ss p.claim)
    × IsRefusalBy r meets_primal
StopsEnd p ss Memory = ⊥

-- the phase changes
abbrev pub EndsSolutions : List (Named Row) → State → State → Result (Unit {0}) Stop → Type 0
EndsSolutions ss old new (Ok done) =
    MeetsPrimal old.progress.problem ss old.progress.problem.claim
    × HasSteps (start old.progress.problem ss) new.progress
    × (new ≡ record old { in_solutions = false })
EndsSolutions ss old new (Err e) = (h : Halt) × HaltsBy old h new e
    × StopsEnd old.progress.problem ss h

-- ---- a derivation

-- a test of the derivation d fails after the certificate c, or memory was refused
abbrev pub StopsStep : Profile → Certificate → Derivation → Halt → Type 0
StopsStep P c d (Refused r f) = (what : StepDetail) × (f ≡ Derived d.name what)
    × (e : RuleError) × (rule_shown e ≡ Some (r.cause, step_detail_of what))
    × (x : StopsIn P c d (step_tests d.reason) e) × IsRefusalBy r (of_step (count c) x.0)
StopsStep P c d Memory = Unit {0}

-- the table, the peak and the goal may change
abbrev pub TakesStep : Certificate → Derivation → State → State → Result (Unit {0}) Stop → Type 0
TakesStep c d old new (Ok done) =
    PassesTestsIn old.progress.profile c d (step_tests d.reason)
    × HasSteps (with_next c d) new.progress
    × (held_in new.progress.rows ≡ count_held (with_next c d) (count c))
    × (held_in new.progress.rows ≤ new.progress.peak)
    × (new ≡ record old {
      progress = record old.progress {
        rows = new.progress.rows;
        peak = new.progress.peak;
        goal = new.progress.goal;
      };
    })
TakesStep c d old new (Err e) = (h : Halt) × HaltsBy old h new e
    × StopsStep old.progress.profile c d h

-- ---- the end

abbrev pub StopsFinish : Profile → Certificate → Halt → Type 0
StopsFinish P c (Refused r f) = (f ≡ Proof) × (¬ PassesTest P c meets_dual)
    × IsRefusalBy r meets_dual
StopsFinish P c Memory = ⊥

-- the certificate is a proof, this is its report, and its claim is true at every point; or no
-- constraint proves the dual side
abbrev pub Finishes : Certificate → State → State → Result Report Stop → Type 0
Finishes c old new (Ok r) =
    IsProof old.progress.profile c × Reports old.progress.profile c (report_of r)
    × IsShown c.problem c.solutions c.problem.claim × (new ≡ old)
Finishes c old new (Err e) = (h : Halt) × HaltsBy old h new e × StopsFinish old.progress.profile c h
