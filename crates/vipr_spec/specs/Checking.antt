-- What a checker keeps of the certificate so far, in one pass over its derivations
use Rattle.std.specs.Prelude.{◌≡◌, ℕ, ◌<◌, ◌⊎◌, List, [], length, Option, Some, None, All}
use Rattle.std.specs.List.{AllWithin, HoldsAt}
use Rattle.vipr_spec.specs.Constraint.{Profile, Row, Constraint, condition}
use Rattle.vipr_spec.specs.Certificate.{Named, Problem, Derivation, Certificate, RestsOnNothing}
use Rattle.vipr_spec.specs.Certificate.{MeetsDual, GoalIs, HasGoodSteps, count, peak}
use Rattle.vipr_spec.specs.{Steps.with_next, Verdict.Report}

-- before the first derivation
abbrev pub start : Problem → List (Named Row) → Certificate
start p ss = record { problem = p; solutions = ss; derivations = [] }

-- each step so far is good, and these are the goal so far and the peak
pub record IsChecked (P : Profile) (c : Certificate) (goal : Option ℕ) (most : ℕ) : Type 0 where
  pub steps : HasGoodSteps P c
  pub goal_is : GoalIs P c goal
  pub peak_is : most ≡ peak c

-- a constraint of the problem meets the dual side
abbrev pub Meets : Profile → Problem → Named Constraint → Type 0
Meets P p n = MeetsDual P p p.claim (condition n.item)

-- the first constraint of the problem that meets the dual side
abbrev pub IsFirstMet : Profile → Problem → Option ℕ → Type 0
IsFirstMet P p None = All (λ n. ¬ Meets P p n) p.constraints
IsFirstMet P p (Some i) =
    (i < length p.constraints) × HoldsAt (Meets P p) p.constraints i
    × AllWithin (λ n. ¬ Meets P p n) p.constraints 0 i

-- the next derivation rests on nothing and meets the dual side
abbrev pub ProvesNext : Profile → Certificate → Derivation → Type 0
ProvesNext P c d =
    RestsOnNothing (with_next c d) (count c)
    × MeetsDual P c.problem c.problem.claim (condition d.stated)

-- the goal so far, with the next derivation
abbrev pub NextGoal : Profile → Certificate → Derivation → Option ℕ → Option ℕ → Type 0
NextGoal P c d (Some goal) next = next ≡ Some goal
NextGoal P c d None next =
    (ProvesNext P c d × (next ≡ Some (count c))) ⊎ ((¬ ProvesNext P c d) × (next ≡ None))

abbrev pub report_from : Certificate → Option ℕ → ℕ → Report
report_from c goal most_held = record {
  claim = c.problem.claim;
  solutions = length c.solutions;
  derived = length c.derivations;
  peak = most_held;
  goal = goal;
}
