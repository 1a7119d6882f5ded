-- What the program does, and what it answers.
use Rattle.std.specs.Prelude.{⊤, ◌≡◌, ◌≢◌, ◌⊎◌, ◌++◌, ℕ, Bool, true, List, [], Option, Some, None}
use Rattle.std.specs.Prelude.{Result, Ok, Err, codes, option_map}
use Rattle.clap.specs.{Words.IsAmong, Words.Text, declared.error.ErrorKind.ErrorKind}
use Rattle.clap.specs.declared.error.ErrorKind.TheVariants as kind
use Rattle.vipr_spec.specs.{Constraint.Profile, Input.Input}
use Rattle.vipr_bytes.specs.Output.{Output}
use Rattle.vipr_rules.specs.Profile.{profile_of}
use Rattle.vipr_rules.specs.declared.profile.Profile as rules
use Rattle.vipr_check.specs.Text.{refusal_text}
use Rattle.vipr_write.specs.declared.form.Form.{Form}
use Rattle.vipr_command.specs.Args.{asked_by, command_word, words_fault}
use Rattle.vipr_command.specs.Folder.{Files, Unchanged, text_held}
use Rattle.vipr_command.specs.Output.{EndsRun, IsEnding, Stays, Took, after_first}
use Rattle.vipr_command.specs.declared.fault.CommandFault.TheVariants.{Memory, Read, Write}
use Rattle.vipr_command.specs.declared.request.Task.TheVariants.{Check, Explain, Show, Tighten}
use Rattle.vipr_command.specs.{Answer.AnswersTask, Answer.Prints, Known.KnownInput, Known.OfInput}
use Rattle.vipr_command.specs.{Show.ShowsText, Tighten.WritesFile, Tighten.WritesTightened}
use Rattle.vipr_command.specs.{declared.answer.Printed.Printed, declared.ending.Ending.Ending}
use Rattle.vipr_command.specs.{declared.fault.CommandFault.CommandFault, declared.request.Job.Job}
use Rattle.vipr_command.specs.{declared.request.Task.Task, declared.show.Shown.Shown}
use Rattle.vipr_command.specs.declared.show.Shown.TheVariants as shown

-- status 0 if the certificate is shown; the line of the refusal and 1 if its text is refused
abbrev pub IsShownEnding : Shown → Ending → Type 0
IsShownEnding shown.Whole e = IsEnding [] 0 e
IsShownEnding (shown.Refused x) e = IsEnding (refusal_text x ++ codes "\n") 1 e

-- old is the output before, if that is known, and new the one afterwards.
-- The answer was printed.
abbrev pub PrintsAnswer : Task → Profile → Bool → Bool → KnownInput → Option Output → Option Output
    → Result Ending CommandFault → Type 0
PrintsAnswer t P long sum k old new r =
    (a : Result Printed CommandFault) × AnswersTask t P long sum k a × Prints a old new r

-- the text was printed in this form, or the certificate refused
abbrev pub PrintsText : Form → KnownInput → Option Output → Option Output
    → Result Ending CommandFault → Type 0
PrintsText F k old new (Ok e) = (x : Shown) × IsShownEnding x e × ShowsText F k.kind old new (Ok x)
PrintsText F k old new (Err f) = ShowsText F k.kind old new (Err f)

-- what is known of where a run writes: what its output accepted, and what its files hold
pub record Outside : Type 0 where
  pub output : Option Output
  pub files : Files

abbrev pub outside_of : Option Output → Files → Outside
outside_of output files = record { output = output; files = files }

-- the tightened certificate was written: to standard output, or else to OUT with nothing printed
abbrev pub PrintsTightened : Profile → Form → Option Text → KnownInput → Outside → Outside
    → Result Ending CommandFault → Type 0
PrintsTightened P F None k old new r = WritesTightened P F (k.proof P) old.output new.output r
    × Unchanged old.files new.files
PrintsTightened P F (Some out) k old new r =
    WritesFile P F (k.proof P) old.files new.files out r × Stays old.output new.output

-- the task is done by this profile, in this form, long or not, with the digest or without, with
-- this OUT, and all other files hold what they held
abbrev pub Does : Task → Profile → Form → Bool → Bool → Option Text → KnownInput → Outside → Outside
    → Result Ending CommandFault → Type 0
Does Check P F long sum out k old new r =
    PrintsAnswer Check P long sum k old.output new.output r × Unchanged old.files new.files
Does Explain P F long sum out k old new r =
    PrintsAnswer Explain P long sum k old.output new.output r × Unchanged old.files new.files
Does Show P F long sum out k old new r =
    PrintsText F k old.output new.output r × Unchanged old.files new.files
Does Tighten P F long sum out k old new r = PrintsTightened P F out k old new r

-- the task of a command line is done
abbrev pub DoesJob : Job → KnownInput → Outside → Outside → Result Ending CommandFault → Type 0
DoesJob j k old new r = Does j.command (profile_of j.profile) j.form j.is_long j.has_sum
    (option_map (λ s. s.now) j.out) k old new r

-- what is read, if it is known: the named file, or else standard input
abbrev pub read_from : Files → Option Input → Option Text → Option Input
read_from files input None = input
read_from files input (Some file) = text_held (files.holds file)

-- nothing was answered but that a read failed
abbrev pub FailsToRead : Option Output → Option Output → Result Ending CommandFault → Type 0
FailsToRead old new r = (r ≡ Err Read) × Stays old new

-- a named file that is known to be none that can be opened fails to be read
abbrev pub UnlessMissing : Files → Option Text → Option Output → Option Output
    → Result Ending CommandFault → Type 0
UnlessMissing files None old new r = ⊤
UnlessMissing files (Some file) old new r = files.holds file ≡ Some None → FailsToRead old new r

-- a file was named that isn't known to be one that can be opened
abbrev pub MayBeMissing : Files → Option Text → Type 0
MayBeMissing files None = ⊥
MayBeMissing files (Some file) = (i : Input) → files.holds file ≢ Some (Some i)

-- nothing was said while the task was done, unless the file couldn't be opened for an explanation
-- that is to be long; before and after are what standard error took
abbrev pub SaysNoMore : Task → Bool → Files → Option Text → Option Output → Option Output
    → Result Ending CommandFault → Type 0
SaysNoMore t long files file before after r = Stays before after
    ⊎ ((t ≡ Explain) × (long ≡ true) × (r ≡ Err Read) × MayBeMissing files file)

-- the words ask for a task, which is done with the named file, or else with standard input
abbrev pub DoesAsked : List Text → Option Input → Outside → Outside → Option Output → Option Output
    → Result Ending CommandFault → Type 0
DoesAsked words input old new before after r = (t : Task) × (P : rules.Profile) × (F : Form)
    × (long sum : Bool) × (file out : Option Text)
    × (asked_by words ≡ Some (command_word t, Some P, F, long, sum, file, out))
    × OfInput (read_from old.files input file)
    (λ k. Does t (profile_of P) F long sum out k old new r)
    × UnlessMissing old.files file old.output new.output r
    × SaysNoMore t long old.files file before after r

abbrev pub IsHelp : ErrorKind → Type 0
IsHelp k = (k ≡ kind.DisplayHelp) ⊎ (k ≡ kind.DisplayVersion)

-- help was printed and nothing said, or the words are wrong and nothing was printed
abbrev pub Declines : ErrorKind → Option Output → Option Output → Option Output → Option Output
    → Result Ending CommandFault → Type 0
Declines k old new before after (Ok e) =
    (IsHelp k × IsEnding [] 0 e × ((text : List ℕ) × Took old new text (Ok tt))
    × Stays before after)
    ⊎ ((¬ IsHelp k) × IsEnding [] 2 e × Stays old new)
Declines k old new before after (Err Read) = ⊥
Declines k old new before after (Err Memory) = Stays old new × Stays before after
Declines k old new before after (Err (Write n)) = IsHelp k
    × ((text : List ℕ) × Took old new text (Err (after_first n))) × Stays before after

-- memory ran out
abbrev pub LacksMemory : Option Output → Option Output → Option Output → Option Output
    → Result Ending CommandFault → Type 0
LacksMemory old new before after r = (r ≡ Err Memory) × Stays old new × Stays before after

-- the same of any error of a command line
abbrev pub AnswersError : ErrorKind → Option Output → Option Output → Option Output → Option Output
    → Result Ending CommandFault → Type 0
AnswersError k old new before after r =
    ((k ≢ kind.OutOfMemory) × Declines k old new before after r)
    ⊎ ((k ≡ kind.OutOfMemory) × LacksMemory old new before after r)

-- the words aren't accepted, or ask for help
abbrev pub DeclinesWords : List Text → Option Output → Option Output → Option Output
    → Option Output → Result Ending CommandFault → Type 0
DeclinesWords words old new before after r = (k : ErrorKind) × IsAmong k (words_fault words)
    × Declines k old new before after r

-- what the words ask for is done, or they are declined, or memory ran out before that was known
abbrev pub AnswersWords : List Text → Option Input → Outside → Outside → Option Output
    → Option Output → Result Ending CommandFault → Type 0
AnswersWords words input old new before after r = DoesAsked words input old new before after r
    ⊎ (DeclinesWords words old.output new.output before after r
    ⊎ LacksMemory old.output new.output before after r)
    × Unchanged old.files new.files

-- a whole run, at whose end this status is answered: before and after are what standard error took
abbrev pub RunsOver : List Text → Option Input → Outside → Outside → Option Output → Option Output
    → ℕ → Type 0
RunsOver words input old new before after status = (r : Result Ending CommandFault)
    × (said : Option Output) × AnswersWords words input old new before said r
    × EndsRun r said after status
