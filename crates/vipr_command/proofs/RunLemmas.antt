-- What the program answers if the words aren't taken, and from what is read
use Rattle.std.proofs.Common.{arith, ◌≡◌, ◌⊎◌, Bor, option_map, ℕ, List, Option, Some, None, Result}
use Rattle.std.proofs.Common.{Ok, Err, Bool, true, false, inl, inr, refl, sym, subst}
use Rattle.std.specs.Prelude.{IfOk, IfSome}
use Rattle.clap.specs.Words.{HasKind, Text, kind_of}
use Rattle.clap.specs.declared.error.ErrorKind.TheVariants.{OutOfMemory}
use Rattle.clap.specs.{declared.error.Error.Error, declared.error.ErrorKind.ErrorKind}
use Rattle.vipr_spec.specs.{Constraint.Profile, Input.Input}
use Rattle.vipr_bytes.specs.Output.{Output}
use Rattle.vipr_rules.specs.Profile.{profile_of}
use Rattle.vipr_write.specs.declared.form.Form.{Form}
use Rattle.vipr_tighten.specs.declared.outcome.TightenFault.TheVariants as tighten
use Rattle.vipr_command.specs.Folder.{Files, IsFileOf, Unchanged, begun_for, text_held}
use Rattle.vipr_command.specs.Known.{KnownInput, OfInput, unknown_input}
use Rattle.vipr_command.specs.declared.fault.CommandFault.TheVariants.{Memory, Read}
use Rattle.vipr_command.specs.declared.request.Task.TheVariants.{Check, Explain, Show, Tighten}
use Rattle.vipr_command.specs.{Answer.AnswersTask, Answer.Prints, Args.are_accepted}
use Rattle.vipr_command.specs.{Args.words_fault, Run.AnswersError, Run.Does, Run.DoesJob}
use Rattle.vipr_command.specs.{Run.AnswersWords, Run.Outside, Run.PrintsAnswer, Run.outside_of}
use Rattle.vipr_command.specs.{declared.answer.Printed.Printed, declared.ending.Ending.Ending}
use Rattle.vipr_command.specs.{declared.fault.CommandFault.CommandFault, declared.request.Job.Job}
use Rattle.vipr_command.specs.{declared.request.Task.Task}
use Rattle.vipr_command.proofs.{InputLemmas.of_input, ShowLemmas.stays, TightenLemmas.unwritten}

-- each name holds what it held
pub same_files : (files : Files) → Unchanged files files
same_files files n = refl

pub declined : (words : List Text) (input : Option Input) (e : Error)
    (old new before after : Option Output) (files : Files) (r : Result Ending CommandFault)
    → HasKind (words_fault words) e → AnswersError (kind_of e) old new before after r
    → AnswersWords words input (outside_of old files) (outside_of new files) before after r
declined words input e old new before after files r has h = grind arith

not_true : (b : Bool) → (b ≡ true → ⊥) → b ≡ false
not_true b n = grind arith

-- status 2 is for words that aren't taken
pub wrong_words : (words : List Text) (k : ErrorKind) (old new before after : Option Output)
    (r : Result Ending CommandFault) → (are_accepted words ≡ true → k ≡ OutOfMemory)
    → AnswersError k old new before after r
    → IfOk r (λ e. e.status ≡ 2 → are_accepted words ≡ false)
wrong_words words k old new before after (Err f) h a = tt
wrong_words words k old new before after (Ok e) h (inl (other, d)) =
    λ two. not_true (are_accepted words) (λ t. other (h t))
wrong_words words k old new before after (Ok e) h (inr (memory, (is, nothing, quiet))) =
    λ two. let bad : Ok e ≡ Err Memory = is in
    cc

abbrev pub named : Option (Bor (List ℕ)) → Option Text
named o = option_map (λ s. s.now) o

-- a file that can't be opened
unread : (t : Task) (P : Profile) (F : Form) (l s : Bool) (out : Option Text)
    (old : Option Output) (files : Files)
    → Does t P F l s out unknown_input (outside_of old files) (outside_of old files) (Err Read)
unread Check P F l s out old files = ((Err Read, tt, (refl, stays old)), same_files files)
unread Explain P F l s out old files = ((Err Read, tt, (refl, stays old)), same_files files)
unread Show P F l s out old files = ((tt, stays old), same_files files)
unread Tighten P F l s None old files = ((Err tighten.Read, refl, (tt, stays old)), same_files files)
unread Tighten P F l s (Some out) old files = (
  unwritten P F (unknown_input.proof P) files out tighten.Read (tt, stays (begun_for files out)),
  stays old,
)

pub unread_job : (j : Job) (old : Option Output) (files : Files)
    → DoesJob j unknown_input (outside_of old files) (outside_of old files) (Err Read)
unread_job j old files = unread j.command (profile_of j.profile) j.form j.is_long j.has_sum (named j.out) old files

-- what a folder opened
module _ {S : Type 0} (E : Type 0) (input : S → Option Input) (held : Option (Option Input)) where
  abbrev Opened : Result S E → Type 0
  Opened r = IfSome held (λ h. IsFileOf input h r)

  pub done_with_opened : (s : S) (P : KnownInput → Type 0) → Opened (Ok s) → OfInput (input s) P
      → OfInput (text_held held) P
  done_with_opened s P opened done = go held opened
    where
      go : (h : Option (Option Input)) → IfSome h (λ h. IsFileOf {S = S} {E = E} input h (Ok s))
          → OfInput (text_held h) P
      go None o = (done.0, tt)
      go (Some None) o = absurd o
      go (Some (Some i)) o = subst (λ x. OfInput x P) o done

  pub unopened : (e : E) (P : KnownInput → Type 0) → Opened (Err e) → P unknown_input → OfInput (text_held held) P
  unopened e P opened done = go held opened
    where
      go : (h : Option (Option Input)) → IfSome h (λ h. IsFileOf {S = S} {E = E} input h (Err e))
          → OfInput (text_held h) P
      go None o = (done, tt)
      go (Some None) o = (done, tt)
      go (Some (Some i)) o = absurd o

module _ (j : Job) (source : Option Input) (old new : Outside) (r : Result Ending CommandFault) where
  -- what is done is this task
  pub done_as : (t : Task) → j.command ≡ t
      → OfInput source
      (λ k. Does t (profile_of j.profile) j.form j.is_long j.has_sum (named j.out) k old new r)
      → OfInput source (λ k. DoesJob j k old new r)
  done_as t is done =
      subst (λ (t : Task). OfInput source
      (λ k. Does t (profile_of j.profile) j.form j.is_long j.has_sum (named j.out) k old new r))
      (sym is) done

-- no file is changed
pub beside : (source : Option Input) (P : KnownInput → Type 0) (files : Files) → OfInput source P
    → OfInput source (λ k. P k × Unchanged files files)
beside source P files done = of_input source P (λ k. P k × Unchanged files files) (λ k p. (p, same_files files)) done

-- an answer was printed
pub done_answer : (j : Job) (source : Option Input) (old new : Option Output) (files : Files)
    (a : Result Printed CommandFault) (r : Result Ending CommandFault)
    → (j.command ≡ Check) ⊎ (j.command ≡ Explain)
    → OfInput source (λ k. AnswersTask j.command (profile_of j.profile) j.is_long j.has_sum k a)
    → Prints a old new r
    → OfInput source (λ k. DoesJob j k (outside_of old files) (outside_of new files) r)
done_answer j source old new files a r is answers prints = go is
  where
    Given : Task → KnownInput → Type 0
    Given t k = PrintsAnswer t (profile_of j.profile) j.is_long j.has_sum k old new r

    given : OfInput source (Given j.command)
    given = of_input source
        (λ k. AnswersTask j.command (profile_of j.profile) j.is_long j.has_sum k a)
        (Given j.command) (λ k h. (a, h, prints)) answers

    go : (j.command ≡ Check) ⊎ (j.command ≡ Explain)
        → OfInput source (λ k. DoesJob j k (outside_of old files) (outside_of new files) r)
    go (inl is) = done_as j source (outside_of old files) (outside_of new files) r Check is
        (beside source (Given Check) files (subst (λ t. OfInput source (Given t)) is given))
    go (inr is) = done_as j source (outside_of old files) (outside_of new files) r Explain is
        (beside source (Given Explain) files (subst (λ t. OfInput source (Given t)) is given))
