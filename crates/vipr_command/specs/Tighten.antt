-- What `tighten` does: how it answers, and what was written then.
use Rattle.std.specs.Prelude.{◌≡◌, ◌⊎◌, ◌++◌, ℕ, List, Option, Result, Ok, Err, codes}
use Rattle.vipr_spec.specs.Constraint.{Profile}
use Rattle.vipr_bytes.specs.{Output.Output, declared.write.WriteFailed.WriteFailed}
use Rattle.vipr_tighten.specs.declared.outcome.Outcome.TheVariants.{Tightened, Refused}
use Rattle.vipr_tighten.specs.declared.outcome.TightenFault.{TightenFault}
use Rattle.vipr_tighten.specs.{Text.outcome_status, Text.outcome_text, Tightens.KindOfText}
use Rattle.vipr_tighten.specs.{Tightens.TightensText, declared.outcome.Outcome.Outcome}
use Rattle.vipr_write.specs.declared.form.Form.{Form}
use Rattle.vipr_tighten.specs.declared.outcome.TightenFault.TheVariants as tighten
use Rattle.vipr_command.specs.Folder.{Files, Replaces, Unchanged, begun_for}
use Rattle.vipr_command.specs.declared.fault.CommandFault.{CommandFault}
use Rattle.vipr_command.specs.declared.fault.CommandFault.TheVariants.{Memory, Read, Write}
use Rattle.vipr_command.specs.{Output.IsEnding, declared.ending.Ending.Ending}

abbrev pub tighten_fault_for : TightenFault → CommandFault
tighten_fault_for tighten.Read = Read
tighten_fault_for (tighten.Memory n) = Memory
tighten_fault_for (tighten.Write n) = Write n

-- the outcome, or the fault
abbrev pub tighten_answer : Result Outcome TightenFault → Result Outcome CommandFault
tighten_answer (Ok x) = Ok x
tighten_answer (Err e) = Err (tighten_fault_for e)

-- the line and the status of the outcome, or the fault
abbrev pub EndsAs : Result Outcome CommandFault → Result Ending CommandFault → Type 0
EndsAs (Ok x) (Ok e) = IsEnding (outcome_text x ++ codes "\n") (outcome_status x) e
EndsAs (Ok x) (Err f) = ⊥
EndsAs (Err f) r = r ≡ Err f

-- old is the sink's output before, if that is known, and new the one afterwards.
-- A text of this kind was tightened to the sink, and the answer is that of what became of it.
abbrev pub WritesTightened : Profile → Form → KindOfText → Option Output → Option Output
    → Result Ending CommandFault → Type 0
WritesTightened P F k old new result = (r : Result Outcome TightenFault)
    × EndsAs (tighten_answer r) result × TightensText P F k old new r

-- What is answered of a text that was tightened to out, for the file of this name. Once it was
-- written, the folder may still refuse it, and then that is a failed write. All else is answered as
-- it is, and each name holds what it held.
abbrev pub Settles : Result Outcome TightenFault → Files → Files → List ℕ → Option Output
    → Result Outcome CommandFault → Type 0
Settles (Ok (Tightened kept removed before after)) old new name out r =
    ((r ≡ Ok (Tightened kept removed before after)) × Replaces old new name out (Ok tt))
    ⊎ ((e : WriteFailed) × (r ≡ Err (Write e.accepted)) × Replaces old new name out (Err e))
Settles (Ok (Refused x)) old new name out r = (r ≡ Ok (Refused x)) × Unchanged old new
Settles (Err e) old new name out r = (r ≡ Err (tighten_fault_for e)) × Unchanged old new

-- A text of this kind was tightened to what was begun for the file of this name, which is out then,
-- and the answer is that of what became of it.
abbrev pub WritesFile : Profile → Form → KindOfText → Files → Files → List ℕ
    → Result Ending CommandFault → Type 0
WritesFile P F k old new name result =
    (x : Result Outcome TightenFault) × (out : Option Output) × (r : Result Outcome CommandFault)
    × TightensText P F k (begun_for old name) out x × Settles x old new name out r × EndsAs r result
