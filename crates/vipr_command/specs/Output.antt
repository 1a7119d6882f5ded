-- What a writer took of what was to be printed, and how a command ends.
use Rattle.std.specs.Prelude.{◌≡◌, ℕ, suc, List, ◌++◌, Option, Some, IfSome, Result, Ok, Err, codes}
use Rattle.vipr_bytes.specs.{Output.Output, Written.Wrote, declared.write.WriteFailed.WriteFailed}
use Rattle.vipr_command.specs.declared.fault.CommandFault.{CommandFault}
use Rattle.vipr_command.specs.declared.fault.CommandFault.TheVariants.{Memory, Read, Write}
use Rattle.vipr_command.specs.{Text.fault_text, declared.ending.Ending.Ending}

-- old is the writer's output before, if that is known, and new the one afterwards.
-- The text was handed to it, with this result.
abbrev pub Took : Option Output → Option Output → List ℕ → Result (Unit {0}) WriteFailed → Type 0
Took old new text r = IfSome old (λ o. Wrote o new text r)

-- only the first n bytes were accepted
abbrev pub after_first : ℕ → WriteFailed
after_first n = record { accepted = n }

-- nothing was handed to it
abbrev pub Stays : Option Output → Option Output → Type 0
Stays old new = IfSome old (λ o. new ≡ Some o)

-- the text was handed to it, with some result
abbrev pub TellsLine : Option Output → Option Output → List ℕ → Type 0
TellsLine old new text = (r : Result (Unit {0}) WriteFailed) × Took old new text r

-- So many writes had failed or accepted nothing before, if that is known, and so many have now:
-- one more if a failed write is answered, and else no more.
abbrev pub CountsWriteFaults : {A : Type 0} → Option ℕ → Option ℕ → Result A CommandFault → Type 0
CountsWriteFaults old new (Ok x) = IfSome old (λ n. new ≡ Some n)
CountsWriteFaults old new (Err Read) = IfSome old (λ n. new ≡ Some n)
CountsWriteFaults old new (Err Memory) = IfSome old (λ n. new ≡ Some n)
CountsWriteFaults old new (Err (Write k)) = IfSome old (λ n. new ≡ Some (suc n))

-- this is said on standard error, and this is the status
abbrev pub IsEnding : List ℕ → ℕ → Ending → Type 0
IsEnding line status e = (e.line.bytes ≡ line) × (e.status ≡ status)

-- what a command ends with was said, a fault too, and its status is the answer: 3 for each fault
abbrev pub EndsRun : Result Ending CommandFault → Option Output → Option Output → ℕ → Type 0
EndsRun (Ok e) old new status = TellsLine old new e.line.bytes × (status ≡ e.status)
EndsRun (Err f) old new status = TellsLine old new (fault_text f ++ codes "\n") × (status ≡ 3)
