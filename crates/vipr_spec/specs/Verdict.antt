-- The verdict on a text: what is tested, in which order, and what the first test that fails answers
use Rattle.std.specs.Prelude.{◌≡◌, ℕ, zero, suc, List, [], ◌∷◌, ◌++◌, length, Option, Some, None}
use Rattle.std.specs.Prelude.{MatchOption, Result, Ok, Err}
use Rattle.std.specs.FinSet as set
use Rattle.std.specs.FinMap.{empty}
use Rattle.vipr_spec.specs.Certificate.{minimum, Claim, infeasible, Problem, Derivation}
use Rattle.vipr_spec.specs.Certificate.{Certificate, NeedsGoal, IsGoal, peak}
use Rattle.vipr_spec.specs.Reading.{Rest, Fault, refused, unread, Read, ◌>>=◌, problem_read}
use Rattle.vipr_spec.specs.Reading.{solution_read, derivations_read, derivation_read, end_read}
use Rattle.vipr_spec.specs.Tests.{solution_cause, Test, spelled, of_solution, meets_primal, of_step}
use Rattle.vipr_spec.specs.Tests.{meets_dual, Passes, numbered_tests, tests_of_solution}
use Rattle.vipr_spec.specs.Tests.{tests_of_derivation, Detail, none, Explains}
use Rattle.vipr_spec.specs.{Constraint.Profile, Steps.step_cause, Steps.FirstFailing}
use Rattle.vipr_spec.specs.Causes as cause

-- ---- a text, item by item

-- the items of which so many are to come, up to a fault or to what is left
abbrev pub before_items : {A : Type 0}
    → (Rest → List A × Result Rest Fault) → Read A → List A × Result Rest Fault
before_items others (Ok x) = (x.0 ∷ (others x.1).0, (others x.1).1)
before_items others (Err f) = ([], Err f)

unfoldable pub items_read : {A : Type 0} → (Rest → Read A) → ℕ → Rest → List A × Result Rest Fault
items_read item zero r = ([], Ok r)
items_read item (suc n) r = before_items (items_read item n) (item r)

-- what was found in a text: the certificate as far as it was read, and the tests in their order
pub record Found : Type 0 where
  pub certificate : Certificate
  pub tests : List Test

abbrev pub last_tests : Result (Unit {0}) Fault → List Test
last_tests (Ok done) = meets_dual ∷ []
last_tests (Err f) = spelled f ∷ []

-- the derivations, and what is tested from the first of them on
abbrev pub derivations_found : Problem → Result (ℕ × Rest) Fault → List Derivation × List Test
derivations_found p (Err f) = ([], spelled f ∷ [])
derivations_found p (Ok d) =
    let items = items_read (derivation_read p) d.0 d.1 in (
      items.0,
      numbered_tests tests_of_derivation (length p.constraints) items.0
          ++ last_tests (items.1 >>= end_read),
    )

-- the same from the end of the solutions on
abbrev pub ending_found : Problem → Result Rest Fault → List Derivation × List Test
ending_found p (Err f) = ([], spelled f ∷ [])
ending_found p (Ok r) =
    let found = derivations_found p (derivations_read p r) in (found.0, meets_primal ∷ found.1)

abbrev pub problem_found : Read (Problem × ℕ) → Found
problem_found (Err f) = record {
  certificate = record {
    problem = record {
      names = [];
      integers = set.empty;
      direction = minimum;
      objective = empty;
      constraints = [];
      bound_count = 0;
      claim = infeasible;
    };
    solutions = [];
    derivations = [];
  };
  tests = spelled f ∷ [];
}
problem_found (Ok p) =
    let items = items_read (solution_read p.0.0) p.0.1 p.1 in
    let ending = ending_found p.0.0 items.1 in record {
      certificate = record { problem = p.0.0; solutions = items.0; derivations = ending.0 };
      tests = numbered_tests (tests_of_solution p.0.0) 0 items.0 ++ ending.1;
    }

unfoldable pub found_in : Rest → Found
found_in r = problem_found (problem_read r)

-- ---- the answer

pub record Report : Type 0 where
  pub claim : Claim
  pub solutions : ℕ
  pub derived : ℕ
  pub peak : ℕ
  pub goal : Option ℕ

-- the claim, the counts, the peak, and the goal, which is none exactly if none is needed
pub record Reports (P : Profile) (c : Certificate) (r : Report) : Type 0 where
  pub claim : r.claim ≡ c.problem.claim
  pub solutions : r.solutions ≡ length c.solutions
  pub derived : r.derived ≡ length c.derivations
  pub peak : r.peak ≡ peak c
  pub goal : MatchOption r.goal (¬ NeedsGoal c.problem c.problem.claim) (IsGoal P c)

pub data Place : Type 0 where
  at_byte : ℕ → Place
  at_solution : ℕ → Place
  at_derivation : ℕ → Place
  at_end : Place

pub record Refusal : Type 0 where
  pub cause : ℕ
  pub place : Place

pub data Answer : Type 0 where
  verified : Report → Answer
  refuses : Refusal → Answer
  -- a read failed
  cut_short : Answer

-- what a test that fails answers
abbrev pub answer_of_test : Test → Answer
answer_of_test (spelled (refused c offset)) = refuses (record { cause = c; place = at_byte offset })
answer_of_test (spelled unread) = cut_short
answer_of_test (of_solution i s t) =
    refuses (record { cause = solution_cause t; place = at_solution i })
answer_of_test meets_primal = refuses (record { cause = cause.no_primal; place = at_end })
answer_of_test (of_step k t) = refuses (record { cause = step_cause t; place = at_derivation k })
answer_of_test meets_dual = refuses (record { cause = cause.no_proof; place = at_end })

-- the first test that fails decides the answer, and if none does the text is verified
abbrev pub IsAnswerOfTest : Profile → Certificate → Option Test → Answer → Type 0
IsAnswerOfTest P c None answer = (report : Report) × Reports P c report × (answer ≡ verified report)
IsAnswerOfTest P c (Some t) answer = answer ≡ answer_of_test t

-- the first test that fails decides the answer
abbrev pub Answers : Profile → Found → Answer → Type 0
Answers P f answer =
    (failing : Option Test) × FirstFailing (Passes P f.certificate) f.tests failing
    × IsAnswerOfTest P f.certificate failing answer

abbrev pub IsAnswer : Profile → Rest → Answer → Type 0
IsAnswer P r answer = Answers P (found_in r) answer

-- ---- the answer with its detail

abbrev pub IsExplainedBy : Profile → Certificate → Option Test → Answer → Detail → Type 0
IsExplainedBy P c None answer detail = IsAnswerOfTest P c None answer × (detail ≡ none)
IsExplainedBy P c (Some t) answer detail = IsAnswerOfTest P c (Some t) answer × Explains c t detail

-- the same, with what is shown of the test that fails
abbrev pub Explained : Profile → Found → Answer → Detail → Type 0
Explained P f answer detail =
    (failing : Option Test) × FirstFailing (Passes P f.certificate) f.tests failing
    × IsExplainedBy P f.certificate failing answer detail

abbrev pub IsExplained : Profile → Rest → Answer → Detail → Type 0
IsExplained P r answer detail = Explained P (found_in r) answer detail
