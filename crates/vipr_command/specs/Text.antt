-- What the program prints of a verdict, and says of a fault
use Rattle.std.specs.Prelude.{ℕ, List, [], ◌++◌, Bool, true, false, codes, decimal, if◌then◌else◌}
use Rattle.vipr_spec.specs.Input.{Input}
use Rattle.vipr_check.specs.{Explanation.explained_text, Text.verdict_text}
use Rattle.vipr_check.specs.{declared.detail.Detail.Detail, declared.verdict.Verdict.Verdict}
use Rattle.vipr_text.specs.Digest.{hex_digest}
use Rattle.vipr_command.specs.declared.fault.CommandFault.{CommandFault}
use Rattle.vipr_command.specs.declared.fault.CommandFault.TheVariants.{Memory, Read, Write}
use Rattle.vipr_command.specs.{declared.request.Task.Task, declared.request.Task.TheVariants.Check}

-- the lines of the verdict
abbrev pub verdict_lines : Verdict → List ℕ
verdict_lines v = verdict_text v ++ codes "\n"

-- the lines of the verdict, with those of the detail for a task that explains
abbrev pub answer_lines : Task → Verdict → Detail → List ℕ
answer_lines Check v x = verdict_lines v
answer_lines _ v x = explained_text v x

-- the line of the digest
abbrev pub sum_line : List ℕ → List ℕ
sum_line bytes = codes "sha256 " ++ hex_digest bytes ++ codes "\n"

-- the same of bytes behind which no read failed
abbrev pub sum_read : Input → List ℕ
sum_read i = if i.fails then [] else sum_line i.bytes

-- the same if it is asked for
abbrev pub sum_asked : Bool → Input → List ℕ
sum_asked true i = sum_read i
sum_asked false i = []

-- what is said of a fault, without the line feed
abbrev pub fault_text : CommandFault → List ℕ
fault_text Read = codes "fault read"
fault_text Memory = codes "fault memory"
fault_text (Write n) = codes "fault write after " ++ decimal n
