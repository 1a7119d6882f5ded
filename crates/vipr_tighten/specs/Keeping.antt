-- A checker run over a text, item by item, while the items are kept
use Rattle.std.specs.Prelude.{◌≡◌, ℕ, ◌<◌, ◌^◌, false, List, [], All, None, IsSome, Ok}
use Rattle.vipr_spec.specs.Certificate.{Named, Problem, Derivation, Certificate, count, IsProof}
use Rattle.vipr_spec.specs.Shape.{RowFits, SolutionShape, DerivationShape, DerivationFits}
use Rattle.vipr_spec.specs.Verdict.{Found, found_in, Answer, Reports, verified, Explained}
use Rattle.vipr_spec.specs.Progress.{solutions_from, derivations_from}
use Rattle.vipr_spec.specs.{Constraint.Profile, Constraint.Row, Input.Input, Reading.Rest}
use Rattle.vipr_spec.specs.{Reading.end_read, Soundness.IsShown, Tests.Detail}
use Rattle.vipr_bytes.specs.Known.{text_of}
use Rattle.vipr_scan.specs.Giving.{rest_of}
use Rattle.vipr_read.specs.Items.{Items}
use Rattle.vipr_check.specs.{Progress.HasSteps, Reasons.SaysWhy, Run.IsAmong, Run.IsAt, State.State}
use Rattle.vipr_check.specs.{State.EndsSolutions, State.Finishes, View.report_of}
use Rattle.vipr_check.specs.{declared.no_proof.NoProof.NoProof, declared.verdict.Report.Report}
use Rattle.vipr_write.specs.declared.statements.Statements.{Statements}
use Rattle.vipr_write.specs.declared.statements.Step.{Step}
use Rattle.vipr_write.specs.Canonical.{solutions_lines, lines_text}
use Rattle.vipr_write.specs.{Steps.AreKept, Steps.AreStepsOf, declared.form.Form.Form}
use Rattle.vipr_tighten.specs.declared.proof_reader.KeptProof.{KeptProof}

-- ---- what is answered

-- what is found in the text that an input is
abbrev pub found_by : Input → Found
found_by i = found_in (text_of i)

-- this is the answer for what was found in a text, with its detail
abbrev pub HasAnswer : Profile → Found → Answer → Type 0
HasAnswer P f a = (x : Detail) × Explained P f a x

-- this is why there is no proof in what was found; want of memory says nothing of it
abbrev pub AnswersWhy : Profile → Found → NoProof → Type 0
AnswersWhy P f e = (x : Detail) × SaysWhy (Explained P f) x e

-- the certificate c is what was found, and the answer is that it is a proof with this report
pub record AnswersProof (P : Profile) (f : Found) (c : Certificate) (report : Report)
    : Type 0 where
  pub same : f.certificate ≡ c
  pub answer : HasAnswer P f (verified (report_of report))

-- ---- what is kept

-- the second has the certificate of the first, and each answer for it, with its detail, is one for
-- the first
pub record LeadsTo (P : Profile) (f g : Found) : Type 0 where
  pub same : f.certificate ≡ g.certificate
  pub answers : (a : Answer) (x : Detail) → Explained P g a x → Explained P f a x

abbrev pub solutions_left : Problem → List (Named Row) → Items → Found
solutions_left p ss r = solutions_from p ss r.left (rest_of r.rest)

abbrev pub derivations_left : Certificate → Items → Found
derivations_left c r = derivations_from c r.left (rest_of r.rest)

-- the solutions ss were read from r on, and the checker and the reader are behind
-- them
pub record KeepsListed (P : Profile) (p : Problem) (r : Items) (ss : List (Named Row))
    (k : State) (new : Items) : Type 0 where
  pub is_among : IsAmong P p ss k new
  pub known : IsSome r.rest → IsSome new.rest
  pub leads : IsSome r.rest → LeadsTo P (solutions_left p [] r) (solutions_left p ss new)

-- they were all accepted, and meet the primal side of the claim
pub record KeepsMet (P : Profile) (p : Problem) (r : Items) (ss : List (Named Row))
    (k : State) (new : Items) : Type 0 where
  pub before : State
  pub listed : KeepsListed P p r ss before new
  pub ends : EndsSolutions ss before k (Ok tt)

-- the certificate c was read where r was left after the certificate s, and the checker and the
-- reader are behind it
pub record KeepsDerived (P : Profile) (s : Certificate) (r : Items) (c : Certificate)
    (k : State) (new : Items) : Type 0 where
  pub is_at : IsAt P c k new
  pub known : IsSome r.rest → IsSome new.rest
  pub leads : IsSome r.rest → LeadsTo P (derivations_left s r) (derivations_left c new)

-- it was read to its end
pub record KeepsWhole (P : Profile) (s : Certificate) (r : Items) (c : Certificate)
    (k : State) : Type 0 where
  pub profile : k.progress.profile ≡ P
  pub has : HasSteps c k.progress
  pub few : count c < 2 ^ 32
  pub phase : k.in_solutions ≡ false
  pub runs : k.halt ≡ None
  pub leads : IsSome r.rest → (end : Rest) × (end_read end ≡ Ok tt)
      × LeadsTo P (derivations_left s r) (derivations_from c 0 end)

-- it is a proof, and this is its report
pub record KeepsFinished (P : Profile) (s : Certificate) (r : Items) (c : Certificate)
    (report : Report) (k : State) : Type 0 where
  pub before : State
  pub whole : KeepsWhole P s r c before
  pub done : Finishes c before k (Ok report)

-- the certificate c was read where r was left before the solutions of the problem p, and it is a
-- proof with this report
pub record KeepsProof (P : Profile) (p : Problem) (r : Items) (c : Certificate)
    (report : Report) : Type 0 where
  pub proof : IsProof P c
  pub reports : Reports P c (report_of report)
  pub shown : IsShown c.problem c.solutions c.problem.claim
  pub found : IsSome r.rest → AnswersProof P (solutions_left p [] r) c report

-- ---- the solutions, and the derivations, whose names and constraints are kept as text

-- these are the lines of the solutions ss, which are over n variables and can be written
pub record KeepsLines (n : ℕ) (kept : List ℕ) (ss : List (Named Row)) : Type 0 where
  pub text : kept ≡ lines_text (solutions_lines ss)
  pub shapes : All (SolutionShape n) ss
  pub fit : All (λ (s : Named Row). RowFits s.item) ss

-- the text is for the same form and the same objective
pub record IsForSame (old new : Statements) : Type 0 where
  pub form : new.form ≡ old.form
  pub objective : new.objective ≡ old.objective

-- the text is for this form and this problem
pub record IsFor (F : Form) (p : Problem) (t : Statements) : Type 0 where
  pub form : t.form ≡ F
  pub objective : t.objective ≡ p.objective

-- these steps are kept of the derivations ds, which are over n variables and can be written
pub record KeepsSteps (n : ℕ) (t : Statements) (steps : List Step)
    (ds : List Derivation) : Type 0 where
  pub kept : AreKept t steps ds
  pub shapes : All (DerivationShape n) ds
  pub fit : All DerivationFits ds

-- this is kept of the proof c, for a text in the form F
pub record IsKeptOf (P : Profile) (F : Form) (c : Certificate) (kept : KeptProof) : Type 0 where
  pub steps : AreStepsOf c kept.problem kept.solutions.bytes.items kept.statements
      kept.steps.items
  pub form : kept.statements.form ≡ F
  pub proof : IsProof P c
  pub reports : Reports P c (report_of kept.report)
  pub shown : IsShown c.problem c.solutions c.problem.claim
