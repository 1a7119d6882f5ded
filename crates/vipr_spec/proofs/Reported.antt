-- What is reported, and that a text has one answer, with one detail
use Rattle.std.proofs.Common.{◌≡◌, ℕ, Option, Some, None, MatchOption, arith, sym, ◌∙◌, ap, subst}
use Rattle.std.specs.Prelude.{IsSome}
use Rattle.vipr_spec.specs.{Profile, condition, Derivation, NeedsGoal, IsGoal, GoalIs, Rest}
use Rattle.vipr_spec.specs.{PassesStep, step_tests, FirstFailing, IsGoodNext, Test, meets_dual}
use Rattle.vipr_spec.specs.{Passes, Detail, Explains, Found, found_in, Report, Reports, Answer}
use Rattle.vipr_spec.specs.{verified, answer_of_test, IsAnswerOfTest, Answers, IsAnswer}
use Rattle.vipr_spec.specs.{IsExplainedBy, Explained, IsExplained, Certificate.Certificate}
use Rattle.vipr_spec.proofs.FirstFailing.{failing_unique}
use Rattle.vipr_spec.proofs.{Details.shows_once, StepTests.no_test_fails}

-- ---- the goal

pub goal_met : (P : Profile) (c : Certificate) (goal : Option ℕ) → GoalIs P c goal
    → (NeedsGoal c.problem c.problem.claim → IsSome goal)
    → Passes P c meets_dual × MatchOption goal (¬ NeedsGoal c.problem c.problem.claim) (IsGoal P c)
goal_met P c goal g h = grind arith

pub goal_missed : (P : Profile) (c : Certificate) → GoalIs P c None
    → NeedsGoal c.problem c.problem.claim → ¬ Passes P c meets_dual
goal_missed P c g n p = let q = p n in g q.0 q.1

-- ---- one report

pub one_report : (P : Profile) (c : Certificate) (x y : Report) → Reports P c x → Reports P c y
    → x ≡ y
one_report P c x y p q = grind arith

-- ---- one answer

pub one_answer_found : (P : Profile) (f : Found) (a b : Answer) → Answers P f a → Answers P f b
    → a ≡ b
one_answer_found P f a b p q =
    by p.0 p.2 (subst (λ t. IsAnswerOfTest P f.certificate t b)
    (failing_unique (Passes P f.certificate) f.tests q.0 p.0 q.1 p.1) q.2)
  where
    by : (t : Option Test) → IsAnswerOfTest P f.certificate t a → IsAnswerOfTest P f.certificate t b → a ≡ b
    by None h k = h.2 ∙ ap verified (one_report P f.certificate h.0 k.0 h.1 k.1) ∙ sym k.2
    by (Some t) h k = h ∙ sym k

pub one_answer : (P : Profile) (r : Rest) (a b : Answer) → IsAnswer P r a → IsAnswer P r b → a ≡ b
one_answer P r a b p q = one_answer_found P (found_in r) a b p q

-- ---- one detail

pub explains_once : (c : Certificate) (t : Test) (x y : Detail) → Explains c t x → Explains c t y
    → x ≡ y
explains_once c t x y h k = grind (arith, shows_once)

-- the answer is the first part of an explained one
pub answer_explained : (P : Profile) (f : Found) (a : Answer) (x : Detail) → Explained P f a x
    → Answers P f a
answer_explained P f a x h = by h.0 h.1 h.2
  where
    by : (t : Option Test) → FirstFailing (Passes P f.certificate) f.tests t
        → IsExplainedBy P f.certificate t a x → Answers P f a
    by None p q = (None, p, q.0)
    by (Some t) p q = (Some t, p, q.0)

pub one_detail : (P : Profile) (r : Rest) (a b : Answer) (x y : Detail) → IsExplained P r a x
    → IsExplained P r b y → (a ≡ b) × (x ≡ y)
one_detail P r a b x y p q = (
  one_answer P r a b (answer_explained P (found_in r) a x p) (answer_explained P (found_in r) b y q),
  by p.0 p.2 (subst (λ t. IsExplainedBy P (found_in r).certificate t b y)
      (failing_unique (Passes P (found_in r).certificate) (found_in r).tests q.0 p.0 q.1 p.1) q.2),
)
  where
    by : (t : Option Test) → IsExplainedBy P (found_in r).certificate t a x
        → IsExplainedBy P (found_in r).certificate t b y → x ≡ y
    by None h k = h.1 ∙ sym k.1
    by (Some t) h k = explains_once (found_in r).certificate t x y h.1 k.1

-- ---- a test that fails tells no verified text

pub known_not_verified : (t : Test) (report : Report) → ¬ (answer_of_test t ≡ verified report)
known_not_verified t report e = grind arith

-- ---- the next derivation

pub next_good : (P : Profile) (c : Certificate) (d : Derivation)
    → FirstFailing (PassesStep P c (condition d.stated)) (step_tests d.reason) None
    → IsGoodNext P c d
next_good P c d h = (no_test_fails P c (condition d.stated) d.reason).0 h
