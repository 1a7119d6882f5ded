-- A checker run over a text, item by item
use Rattle.std.specs.Prelude.{⊤, ◌≡◌, ◌+◌, ◌<◌, ◌^◌, true, false, List, length, Option, Some, None}
use Rattle.std.specs.Prelude.{Result, Ok, Err, IsSome}
use Rattle.vipr_spec.specs.Certificate.{Named, Problem, Certificate, count}
use Rattle.vipr_spec.specs.Verdict.{Answer, verified, cut_short, Explained}
use Rattle.vipr_spec.specs.{Constraint.Profile, Constraint.Row, Progress.solutions_from}
use Rattle.vipr_spec.specs.{Progress.derivations_from, Tests.Detail as DetailMeant, Tests.none}
use Rattle.vipr_scan.specs.Giving.{rest_of}
use Rattle.vipr_read.specs.Items.{Items, Knows}
use Rattle.vipr_check.specs.declared.verdict.Fault.TheVariants.{Read, Memory}
use Rattle.vipr_check.specs.Shown.{detail_of, state_shown, last_shown}
use Rattle.vipr_check.specs.{Progress.HasSolutions, Progress.HasSteps, Reasons.SaysWhy, State.State}
use Rattle.vipr_check.specs.{View.answer_of, View.report_of, declared.detail.Detail.Detail}
use Rattle.vipr_check.specs.{declared.no_proof.NoProof.NoProof, declared.verdict.Fault.Fault}
use Rattle.vipr_check.specs.{declared.verdict.Report.Report, declared.verdict.Verdict.Verdict}

-- ---- what is answered

-- the report, or why there is no proof, is one of these, with what is shown of it
abbrev pub SaysWith : (Answer → DetailMeant → Type 0) → DetailMeant → Result Report NoProof → Type 0
SaysWith P x (Ok r) = P (verified (report_of r)) x
SaysWith P x (Err e) = SaysWhy P x e

-- the same if a checker may be left, which knows what is shown
abbrev pub SaysAtEnd : (Answer → DetailMeant → Type 0) → Result Report NoProof × Option State
    → Type 0
SaysAtEnd P e = SaysWith P (last_shown e.1) e.0

-- the same of the verdict with a detail
abbrev pub SaysInDetail : (Answer → DetailMeant → Type 0) → Result (Verdict × Detail) Fault → Type 0
SaysInDetail P (Ok e) = P (answer_of e.0) (detail_of e.1)
SaysInDetail P (Err Read) = P cut_short none
SaysInDetail P (Err Memory) = ⊤

abbrev pub verdict_in : {T : Type 0} → Result (Verdict × T) Fault → Result Verdict Fault
verdict_in (Ok e) = Ok e.0
verdict_in (Err f) = Err f

-- ---- the solutions

-- the checker has the problem and these solutions, and the reader is before the solution
-- that comes next
pub record IsAmong (P : Profile) (p : Problem) (ss : List (Named Row)) (k : State)
    (r : Items) : Type 0 where
  pub profile : k.progress.profile ≡ P
  pub problem : k.progress.problem ≡ p
  pub has : HasSolutions ss k.progress
  pub phase : k.in_solutions ≡ true
  pub runs : k.halt ≡ None
  pub knows : Knows r p
  pub unspent : r.failed ≡ false
  pub room : length ss + r.left < 2 ^ 32

-- so much was read since these solutions that the checker now has more of them
pub record HasListed (P : Profile) (p : Problem) (ss : List (Named Row)) (old : Items) (k : State)
    (new : Items) : Type 0 where
  pub now : List (Named Row)
  pub is_among : IsAmong P p now k new
  pub known : IsSome old.rest → IsSome new.rest
  pub answers : IsSome old.rest → (a : Answer) (x : DetailMeant)
      → Explained P (solutions_from p now new.left (rest_of new.rest)) a x
      → Explained P (solutions_from p ss old.left (rest_of old.rest)) a x

-- a solution more was accepted, or the answer is that for what remained
abbrev pub GoesAmong : Profile → Problem → List (Named Row) → Items → State → Items
    → Result (Unit {0}) NoProof → Type 0
GoesAmong P p ss old k new (Ok done) = HasListed P p ss old k new
GoesAmong P p ss old k new (Err e) = IsSome old.rest
    → SaysWhy (Explained P (solutions_from p ss old.left (rest_of old.rest))) (state_shown k) e

-- ---- the derivations

-- the checker has the certificate c, and the reader is before the derivation that comes next
pub record IsAt (P : Profile) (c : Certificate) (k : State) (r : Items) : Type 0 where
  pub profile : k.progress.profile ≡ P
  pub has : HasSteps c k.progress
  pub phase : k.in_solutions ≡ false
  pub runs : k.halt ≡ None
  pub knows : Knows r c.problem
  pub unspent : r.failed ≡ false
  pub room : count c + r.left < 2 ^ 32

-- an answer for the certificate d and what is left then is one for the certificate c and what is
-- left before
pub record Leads (P : Profile) (c : Certificate) (old : Items) (d : Certificate)
    (new : Items) : Type 0 where
  pub known : IsSome new.rest
  pub answers : (a : Answer) (x : DetailMeant)
      → Explained P (derivations_from d new.left (rest_of new.rest)) a x
      → Explained P (derivations_from c old.left (rest_of old.rest)) a x

-- so much was read since the certificate c that the checker now has another one
pub record HasReached (P : Profile) (c : Certificate) (old : Items) (k : State)
    (new : Items) : Type 0 where
  pub now : Certificate
  pub is_at : IsAt P now k new
  pub leads : IsSome old.rest → Leads P c old now new

-- a derivation more was accepted, or the answer is that for what remained
abbrev pub Goes : Profile → Certificate → Items → State → Items → Result (Option Report) NoProof
    → Type 0
Goes P c old k new (Ok None) = HasReached P c old k new
Goes P c old k new (Ok (Some r)) = IsSome old.rest
    → Explained P (derivations_from c old.left (rest_of old.rest)) (verified (report_of r))
    (state_shown k)
Goes P c old k new (Err e) = IsSome old.rest
    → SaysWhy (Explained P (derivations_from c old.left (rest_of old.rest))) (state_shown k) e
