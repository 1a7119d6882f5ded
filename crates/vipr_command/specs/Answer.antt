-- What is answered of a certificate that is checked or explained, as a value.
use Rattle.std.specs.Prelude.{⊤, ◌≡◌, ◌<◌, ◌^◌, ◌++◌, ℕ, Bool, true, false, List, [], length}
use Rattle.std.specs.Prelude.{Option, Some, Result, Ok, Err}
use Rattle.vipr_spec.specs.{Constraint.Profile, Input.Input, Verdict.IsExplained}
use Rattle.vipr_bytes.specs.{Known.text_of, Output.Output, declared.write.WriteFailed.WriteFailed}
use Rattle.vipr_check.specs.declared.verdict.Fault.TheVariants.{Read as CheckRead}
use Rattle.vipr_check.specs.declared.verdict.Fault.TheVariants.{Memory as CheckMemory}
use Rattle.vipr_check.specs.declared.verdict.Fault.{Fault as CheckFault}
use Rattle.vipr_check.specs.declared.verdict.Verdict.{Verdict}
use Rattle.vipr_check.specs.{Checks.ChecksIn, Explanation.explained_text, Shown.detail_of}
use Rattle.vipr_check.specs.{Text.verdict_status, View.answer_of, declared.detail.Detail.Detail}
use Rattle.vipr_explain.specs.Page.{IsPage}
use Rattle.vipr_command.specs.declared.fault.CommandFault.TheVariants.{Memory, Read, Write}
use Rattle.vipr_command.specs.{Known.KnownInput, Known.known_by, Output.IsEnding, Output.Stays}
use Rattle.vipr_command.specs.{Output.Took, Text.answer_lines, Text.sum_asked, Text.verdict_lines}
use Rattle.vipr_command.specs.{declared.answer.Printed.Printed, declared.ending.Ending.Ending}
use Rattle.vipr_command.specs.{declared.fault.CommandFault.CommandFault, declared.request.Task.Task}
use Rattle.vipr_command.specs.{declared.request.Task.TheVariants.Check}

abbrev pub fault_for : CheckFault → CommandFault
fault_for CheckRead = Read
fault_for CheckMemory = Memory

-- these bytes, and whether a read fails behind them
abbrev pub input_of : List ℕ → Bool → Input
input_of bytes fails = record { bytes = bytes; fails = fails }

-- these bytes were read of this input, and that is left
abbrev pub HasRead : Input → Option Input → List ℕ → Type 0
HasRead i left bytes = (rest : Input) × (left ≡ Some rest)
    × (i ≡ input_of (bytes ++ rest.bytes) rest.fails)

-- a read found more, or the end, or failed there
abbrev pub ReadsOn : Input → Option Input → List ℕ → Bool → Bool → Type 0
ReadsOn i left bytes has_failed true = HasRead i left bytes
ReadsOn i left bytes has_failed false = i ≡ input_of bytes has_failed

-- the lines of a task, if it is to be long a page for people behind them, which may be empty, and
-- the digest's line, if that is asked for
abbrev pub IsPrinted : Task → Bool → Bool → Input → Verdict → Detail → List ℕ → Type 0
IsPrinted t long sum i v x text = (page : List ℕ) × IsPage page × (long ≡ false → page ≡ [])
    × (text ≡ answer_lines t v x ++ page ++ sum_asked sum i)

-- this verdict is the exact answer for an input, and this text is printed of it
pub record TellsWhole (t : Task) (P : Profile) (long sum : Bool) (i : Input) (v : Verdict)
    (text : List ℕ) : Type 0 where
  pub x : Detail
  pub explained : IsExplained P (text_of i) (answer_of v) (detail_of x)
  pub checked : ChecksIn P (Some i) (Ok v)
  pub short : length i.bytes < 2 ^ 64
  pub printed : IsPrinted t long sum i v x text

-- this verdict is an answer for what is known of an input, and its lines are the text
abbrev pub TellsLines : Task → Profile → KnownInput → Verdict → List ℕ → Type 0
TellsLines Check P k v text = k.Checked P (Ok v) × (text ≡ verdict_lines v)
TellsLines t P k v text = (x : Detail) × k.Explained P (Ok (v, x)) × (text ≡ explained_text v x)

-- the same of a task that may be long, and may have a digest: then it is of some input that was
-- given
abbrev pub Tells : Task → Profile → Bool → Bool → KnownInput → Verdict → List ℕ → Type 0
Tells t P false false k v text = TellsLines t P k v text
Tells t P false true k v text = (i : Input) × k.Gives i × TellsWhole t P false true i v text
Tells t P true sum k v text = (i : Input) × k.Gives i × TellsWhole t P true sum i v text

-- the answer is a verdict of which this is said, with its status; or a read failed before there
-- was one; or memory ran out
abbrev pub AnswersBy : (Verdict → List ℕ → Type 0) → Type 0 → Result Printed CommandFault → Type 0
AnswersBy T Unread (Ok a) = (v : Verdict) × T v a.text.items × (a.status ≡ verdict_status v)
AnswersBy T Unread (Err Read) = Unread
AnswersBy T Unread (Err Memory) = ⊤
AnswersBy T Unread (Err (Write n)) = ⊥

-- of what was given and read into memory
abbrev pub AnswersWhole : Task → Profile → Bool → Bool → Input → Result Printed CommandFault
    → Type 0
AnswersWhole t P long sum i r =
    AnswersBy (TellsWhole t P long sum i) ((known_by i).Checked P (Err CheckRead)) r

-- of what is known of an input
abbrev pub AnswersTask : Task → Profile → Bool → Bool → KnownInput → Result Printed CommandFault
    → Type 0
AnswersTask t P long sum k r = AnswersBy (Tells t P long sum k) (k.Checked P (Err CheckRead)) r

-- old is the output before, if that is known, and new the one afterwards.
-- The text of the answer was handed to it, and nothing of a fault.
abbrev pub Prints : Result Printed CommandFault → Option Output → Option Output
    → Result Ending CommandFault → Type 0
Prints (Ok a) old new (Ok e) = IsEnding [] a.status e × Took old new a.text.items (Ok tt)
Prints (Ok a) old new (Err f) = (w : WriteFailed) × (f ≡ Write w.accepted)
    × Took old new a.text.items (Err w)
Prints (Err f) old new r = (r ≡ Err f) × Stays old new
