-- What is answered of a certificate, as a value
use Rattle.std.proofs.Common.{arith}
use Rattle.std.proofs.Common.{◌≡◌, ◌≢◌, ◌⊎◌, ◌<◌, ◌^◌, ℕ, List, Bool, true, false, length, Option, Some, None, IfSome}
use Rattle.std.proofs.Common.{Result, Ok, Err, inl, inr, refl, subst, sym}
use Rattle.std.specs.Prelude.{IsErrAnd, is_ok}
use Rattle.vipr_spec.specs.{Constraint.Profile, Input.Input, Verdict.Answer, Verdict.IsAnswer, Verdict.IsExplained}
use Rattle.vipr_check.specs.declared.verdict.Fault.{Fault as CheckFault}
use Rattle.vipr_check.specs.declared.verdict.Fault.TheVariants.{Memory as CheckMemory}
use Rattle.vipr_check.specs.declared.verdict.Fault.TheVariants.{Read as CheckRead}
use Rattle.vipr_check.specs.{Checks.ChecksIn, Run.SaysInDetail}
use Rattle.vipr_check.specs.{declared.detail.Detail.Detail, declared.verdict.Verdict.Verdict}
use Rattle.vipr_bytes.specs.{Known.IfKnown, Known.text_of}
use Rattle.vipr_command.specs.Answer.{AnswersTask, AnswersBy, AnswersWhole, Tells, TellsWhole}
use Rattle.vipr_command.specs.Answer.{fault_for, input_of}
use Rattle.vipr_command.specs.Known.{KnownInput, OfInput, known_by, unknown_input}
use Rattle.vipr_command.specs.declared.fault.CommandFault.{CommandFault}
use Rattle.vipr_command.specs.declared.fault.CommandFault.TheVariants.{Memory, Read, Write}
use Rattle.vipr_command.specs.declared.request.Task.TheVariants.{Check, Explain, Show, Tighten}
use Rattle.vipr_command.specs.{declared.answer.Printed.Printed, declared.request.Task.Task}
use Rattle.vipr_command.proofs.InputLemmas.{of_input}

-- what is told in some words is told in others
answers_as : (T U : Verdict → List ℕ → Type 0) (X Y : Type 0)
    → ((v : Verdict) (text : List ℕ) → T v text → U v text) → (X → Y)
    → (r : Result Printed CommandFault) → AnswersBy T X r → AnswersBy U Y r
answers_as T U X Y f g (Ok a) (v, told, is) = (v, f v a.text.items told, is)
answers_as T U X Y f g (Err Read) x = g x
answers_as T U X Y f g (Err Memory) x = tt
answers_as T U X Y f g (Err (Write n)) x = absurd x

-- no verdict was reached
pub unanswered : (T : Verdict → List ℕ → Type 0) (P : Profile) (k : KnownInput) (e : CheckFault)
    (r : Result Printed CommandFault) → IsErrAnd r (λ f. f ≡ fault_for e) → k.Checked P (Err e)
    → AnswersBy T (k.Checked P (Err CheckRead)) r
unanswered T P k e (Ok a) is h = absurd is
unanswered T P k e (Err f) is h = subst (λ f. AnswersBy T (k.Checked P (Err CheckRead)) (Err f)) (sym is) (go e h)
  where
    go : (e : CheckFault) → k.Checked P (Err e) → AnswersBy T (k.Checked P (Err CheckRead)) (Err (fault_for e))
    go CheckRead h = h
    go CheckMemory h = tt

module _ (P : Profile) (source : Option Input) (r : Result Printed CommandFault) where
  abbrev Answered : Task → Bool → Bool → Type 0
  Answered t l s = OfInput source (λ k. AnswersTask t P l s k r)

  -- the text isn't kept
  pub read_once : (t : Task) (l s : Bool) → l ≡ false → s ≡ false → Answered t false false → Answered t l s
  read_once t l s short plain h = subst (λ l. Answered t l s) (sym short)
      (subst (λ s. Answered t false s) (sym plain) h)

  pub is_check : (t : Task) → t ≡ Check → Answered Check false false → Answered t false false
  is_check t is h = subst (λ t. Answered t false false) (sym is) h

  pub is_explained : (t : Task) → t ≢ Check → Answered Explain false false → Answered t false false
  is_explained t other h = of_input source (λ k. AnswersTask Explain P false false k r)
      (λ k. AnswersTask t P false false k r)
      (λ k. answers_as (Tells Explain P false false k) (Tells t P false false k)
      (k.Checked P (Err CheckRead)) (k.Checked P (Err CheckRead)) (told t other k) (λ x. x) r) h
    where
      told : (t : Task) → t ≢ Check → (k : KnownInput) (v : Verdict) (text : List ℕ)
          → Tells Explain P false false k v text → Tells t P false false k v text
      told Check other k v text h = absurd (other refl)
      told Explain other k v text h = h
      told Show other k v text h = h
      told Tighten other k v text h = h

-- the text is kept, which is the source's, if that is known
module _ (t : Task) (P : Profile) (l s : Bool) (i : Input) (r : Result Printed CommandFault) where
  of_given : (k : KnownInput) → (l ≡ true) ⊎ (s ≡ true) → k.Gives i
      → ((known_by i).Checked P (Err CheckRead) → k.Checked P (Err CheckRead))
      → AnswersWhole t P l s i r → AnswersTask t P l s k r
  of_given k is gives unread h = answers_as (TellsWhole t P l s i) (Tells t P l s k)
      ((known_by i).Checked P (Err CheckRead)) (k.Checked P (Err CheckRead)) (telling l s is) unread
      r h
    where
      telling : (l s : Bool) → (l ≡ true) ⊎ (s ≡ true) → (v : Verdict) (text : List ℕ)
          → TellsWhole t P l s i v text → Tells t P l s k v text
      telling true s is v text w = (i, gives, w)
      telling false true is v text w = (i, gives, w)
      telling false false (inl is) v text w = cc
      telling false false (inr is) v text w = cc

  pub of_kept : (source : Option Input) → (l ≡ true) ⊎ (s ≡ true) → IfSome source (λ j. i ≡ j)
      → AnswersWhole t P l s i r → OfInput source (λ k. AnswersTask t P l s k r)
  of_kept None is same h = (of_given unknown_input is tt (λ x. tt) h, tt)
  of_kept (Some j) is same h = (
    of_given unknown_input is tt (λ x. tt) h,
    λ short. of_given (known_by j) is same
        (λ x. subst (λ y. (known_by y).Checked P (Err CheckRead)) same x) h,
  )

module _ (bytes bytes' : List ℕ) (fails ends : Bool) (same : bytes' ≡ bytes) (end : ends ≡ fails) where
  -- what a reader of the text gives is the text
  read_as : (Q : Input → Type 0) → Q (input_of bytes' ends) → Q (input_of bytes fails)
  read_as Q h = subst (λ b. Q (input_of b fails)) same (subst (λ f. Q (input_of bytes' f)) end h)

  pub said_of : (P : Profile) (r : Result (Verdict × Detail) CheckFault) → length bytes < 2 ^ 64
      → IfKnown (Some (input_of bytes' ends)) (λ i. SaysInDetail (IsExplained P (text_of i)) r)
      → SaysInDetail (IsExplained P (text_of (input_of bytes fails))) r
  said_of P r short said = read_as (λ i. IfKnown (Some i) (λ i. SaysInDetail (IsExplained P (text_of i)) r)) said short

  pub checked_of : (P : Profile) (r : Result Verdict CheckFault)
      → ChecksIn P (Some (input_of bytes' ends)) r → ChecksIn P (Some (input_of bytes fails)) r
  checked_of P r h = read_as (λ i. ChecksIn P (Some i) r) h

-- a verdict was reached
pub some_answer : (P : Profile) (i : Input) (r : Result Verdict CheckFault) → length i.bytes < 2 ^ 64
    → ChecksIn P (Some i) r → is_ok r ≡ true → (a : Answer) × IsAnswer P (text_of i) a
some_answer P i r short c e = grind arith
