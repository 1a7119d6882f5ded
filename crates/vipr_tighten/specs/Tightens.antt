-- What `tighten` answers for what the source gives, and what was written then
use Rattle.std.specs.Prelude.{◌≡◌, ⊤, ℕ, suc, ◌+◌, ◌<◌, ◌≤◌, true, List, length, Option, Some}
use Rattle.std.specs.Prelude.{IfSome, Result, Ok, Err}
use Rattle.vipr_spec.specs.Certificate.{Certificate, IsProof, GoalIs, count, peak}
use Rattle.vipr_spec.specs.Tightened.{tightened_certificate, new_goal, IsNeededFor}
use Rattle.vipr_spec.specs.Verdict.{refuses, cut_short, IsAnswer}
use Rattle.vipr_spec.specs.{Constraint.Profile, Constraint.one, Grammar.Spells, Grammar.SpellsOnly}
use Rattle.vipr_spec.specs.{Input.Input, Reading.Rest, Reading.certificate_read, Soundness.IsShown}
use Rattle.vipr_bytes.specs.Known.{text_of, IfKnown, IfWhole}
use Rattle.vipr_bytes.specs.{Output.Output, Written.Wrote}
use Rattle.vipr_write.specs.{Canonical.canonical_text, Forms.compact_text, Forms.text_in}
use Rattle.vipr_write.specs.{declared.form.Form.Form, declared.form.Form.TheVariants.Canonical}
use Rattle.vipr_check.specs.declared.no_proof.NoProof.{NoProof}
use Rattle.vipr_check.specs.{View.refusal_of, declared.verdict.Refusal.Refusal}
use Rattle.vipr_check.specs.declared.no_proof.NoProof.TheVariants as reason
use Rattle.vipr_tighten.specs.declared.outcome.Outcome.{Outcome}
use Rattle.vipr_tighten.specs.declared.outcome.Outcome.TheVariants.{Tightened, Refused}
use Rattle.vipr_tighten.specs.declared.outcome.TightenFault.{TightenFault}
use Rattle.vipr_tighten.specs.declared.outcome.TightenFault.TheVariants.{Read, Memory, Write}

-- ---- what is written for a proof

-- its goal has this index, none if its dual side needs none
pub record IsProofFor (P : Profile) (c : Certificate) (goal : Option ℕ) : Type 0 where
  pub proof : IsProof P c
  pub goal_is : GoalIs P c goal
  -- what it claims is true at every point
  pub shown : IsShown c.problem c.solutions c.problem.claim

-- what is said of the tightened certificate t of the proof c
pub record IsTight (P : Profile) (c : Certificate) (goal : Option ℕ) (t : Certificate)
    : Type 0 where
  -- it is a proof of the same problem and claim, with the same solutions and the image of the goal
  pub problem : t.problem ≡ c.problem
  pub solutions : t.solutions ≡ c.solutions
  pub proof : IsProofFor P t (new_goal c goal)
  -- its canonical text spells it and nothing else, and so does its compact text
  pub spells : SpellsOnly (canonical_text t) t
  pub spells_compact : SpellsOnly (compact_text t) t
  -- each derivation of it is needed in it
  pub needed : (k : ℕ) → length t.problem.constraints ≤ k → k < count t
      → IsNeededFor t (new_goal c goal) k
  -- tightened once more it stays as it is
  pub again : tightened_certificate t (new_goal c goal) ≡ t
  pub peak_is : peak t ≤ peak c

-- how many derivations were kept and removed, and the peaks before and after
pub record AreFigures (c t : Certificate) (kept removed before after : ℕ) : Type 0 where
  pub kept_is : kept ≡ length t.derivations
  pub all : kept + removed ≡ length c.derivations
  pub before_is : before ≡ peak c
  pub after_is : after ≡ peak t

-- ---- the answer

-- What a text may be: that of such a certificate, one with such a refusal, or one whose reading
-- fails in this case.
pub record KindOfText : Type 1 where
  pub IsOf : Certificate → Type 0
  pub IsRefusedBy : Refusal → Type 0
  pub IsCutShort : Type 0

-- what is written for a proof of this kind: how much of the text of its tightened certificate, in a
-- form, is said by the last
abbrev pub ForProof : Profile → Form → KindOfText → (Certificate → Certificate → List ℕ → Type 0)
    → Type 0
ForProof P F k Q =
    (c : Certificate) × (goal : Option ℕ) × k.IsOf c × IsProofFor P c goal
    × IsTight P c goal (tightened_certificate c goal)
    × Q c (tightened_certificate c goal) (text_in F (tightened_certificate c goal))

-- the text was handed to the sink, with this result
abbrev pub TakesText : Option Output → Option Output → List ℕ → Result (Unit {0}) ℕ → Type 0
TakesText old new text (Ok u) = IfSome old (λ o. Wrote o new text (Ok u))
TakesText old new text (Err n) = (n < length text)
    × IfSome old (λ o. Wrote o new text (Err (record { accepted = n })))

-- nothing was written
abbrev pub TakesNothing : Option Output → Option Output → Type 0
TakesNothing old new = IfSome old (λ o. new ≡ Some o)

-- old is the sink's output before, if that is known, and new the one afterwards.
-- Tightened: the text of the tightened certificate was accepted, in this form.
-- Write: its first n bytes were accepted, and no more.
-- Else nothing was written.
abbrev pub TightensText : Profile → Form → KindOfText → Option Output → Option Output
    → Result Outcome TightenFault → Type 0
TightensText P F k old new (Ok (Tightened kept removed before after)) =
    ForProof P F k (λ c t text. AreFigures c t kept removed before after
    × TakesText old new text (Ok tt))
TightensText P F k old new (Ok (Refused r)) = k.IsRefusedBy r × TakesNothing old new
TightensText P F k old new (Err Read) = k.IsCutShort × TakesNothing old new
TightensText P F k old new (Err (Memory n)) = (n ≡ 0) × TakesNothing old new
TightensText P F k old new (Err (Write n)) =
    ForProof P F k (λ c t text. TakesText old new text (Err n))

-- So many writes had failed or accepted nothing before, if that is known, and so many have now:
-- one more if a failed write is answered, and else no more.
abbrev pub CountsFailures : Option ℕ → Option ℕ → Result Outcome TightenFault → Type 0
CountsFailures old new (Ok x) = IfSome old (λ n. new ≡ Some n)
CountsFailures old new (Err Read) = IfSome old (λ n. new ≡ Some n)
CountsFailures old new (Err (Memory k)) = IfSome old (λ n. new ≡ Some n)
CountsFailures old new (Err (Write k)) = IfSome old (λ n. new ≡ Some (suc n))

-- a text of which nothing is known
abbrev pub any_kind : KindOfText
any_kind = record { IsOf = λ _. ⊤; IsRefusedBy = λ _. ⊤; IsCutShort = ⊤ }

-- one of which it is known that it is of this proof
abbrev pub kind_of : Certificate → KindOfText
kind_of c = record { IsOf = λ x. x ≡ c; IsRefusedBy = λ _. ⊥; IsCutShort = ⊥ }

-- one that is read so, with the answer of the definitions
abbrev pub kind_read : Profile → Rest → KindOfText
kind_read P r = record {
  IsOf = λ c. certificate_read r ≡ Ok c;
  IsRefusedBy = λ x. IsAnswer P r (refuses (refusal_of x));
  IsCutShort = IsAnswer P r cut_short;
}

-- one of these bytes, of which no read fails
abbrev pub kind_spelled : Profile → List ℕ → KindOfText
kind_spelled P bytes = record {
  IsOf = SpellsOnly bytes;
  IsRefusedBy = λ _. (c : Certificate) → Spells bytes c → ¬ IsProof P c;
  IsCutShort = ⊥;
}

-- if no proof was read
abbrev pub unproved_answer : NoProof → Result Outcome TightenFault
unproved_answer (reason.Refused r) = Ok (Refused r)
unproved_answer reason.Read = Err Read
unproved_answer reason.Memory = Err (Memory 0)

pub record TightensAs (P : Profile) (F : Form) (source : Option Input) (old new : Option Output)
    (result : Result Outcome TightenFault) : Type 0 where
  -- Nothing is written but the text of a tightened proof.
  pub written : TightensText P F any_kind old new result
  -- The proof, or the first fault, is that of the definitions for the bytes that the source gives,
  -- in whatever pieces.
  pub exact : IfKnown source (λ i. TightensText P F (kind_read P (text_of i)) old new result)
  -- That a read failed is answered only if the source fails.
  pub read : IfKnown source (λ i. result ≡ Err Read → i.fails ≡ true)
  -- The proof is the one certificate that the text spells, and it is refused exactly if the text
  -- spells none.
  pub spelled : IfWhole source (λ bytes. TightensText P F (kind_spelled P bytes) old new result)

-- in the canonical form
abbrev pub TightensIn : Profile → Option Input → Option Output → Option Output
    → Result Outcome TightenFault → Type 0
TightensIn P source old new result = TightensAs P Canonical source old new result

-- under profile one
abbrev pub Tightens : Option Input → Option Output → Option Output → Result Outcome TightenFault
    → Type 0
Tightens source old new result = TightensIn one source old new result
