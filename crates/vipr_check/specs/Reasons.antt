-- Why a text isn't known to be a proof
use Rattle.std.specs.Prelude.{⊤, Result, Ok, Err}
use Rattle.vipr_spec.specs.Tests.{Detail, none}
use Rattle.vipr_spec.specs.Verdict.{Answer, refuses, cut_short}
use Rattle.vipr_scan.specs.declared.error.TextError.{TextError}
use Rattle.vipr_scan.specs.declared.error.TextError.TheVariants as text
use Rattle.vipr_check.specs.declared.verdict.Place.TheVariants.{Byte}
use Rattle.vipr_check.specs.declared.no_proof.NoProof.{NoProof}
use Rattle.vipr_check.specs.declared.no_proof.NoProof.TheVariants.{Refused, Read, Memory}
use Rattle.vipr_check.specs.{View.refusal_of, declared.halt.Stop.Stop, declared.verdict.Fault.Fault}
use Rattle.vipr_check.specs.{declared.verdict.Report.Report, declared.verdict.Verdict.Verdict}
use Rattle.vipr_check.specs.declared.verdict.Verdict.TheVariants as verdict
use Rattle.vipr_check.specs.declared.verdict.Fault.TheVariants as fault
use Rattle.vipr_check.specs.declared.halt.Stop.TheVariants as stop

-- if a checker stopped
abbrev pub stop_reason : Stop → NoProof
stop_reason (stop.Refused r) = Refused r
stop_reason stop.Memory = Memory
stop_reason stop.Spent = Memory

-- if a text was not read on
abbrev pub text_reason : TextError → NoProof
text_reason (text.Refused c offset) = Refused (record { cause = c; place = Byte offset })
text_reason text.Read = Read
text_reason text.Memory = Memory
text_reason text.Spent = Read

-- the verdict that is answered, or the fault
abbrev pub verdict_by : Result Report NoProof → Result Verdict Fault
verdict_by (Ok r) = Ok (verdict.Verified r)
verdict_by (Err (Refused r)) = Ok (verdict.Refused r)
verdict_by (Err Read) = Err fault.Read
verdict_by (Err Memory) = Err fault.Memory

-- as an answer, with what is shown of it, it is one of these; want of memory is none
abbrev pub SaysWhy : (Answer → Detail → Type 0) → Detail → NoProof → Type 0
SaysWhy P x (Refused r) = P (refuses (refusal_of r)) x
SaysWhy P x Read = P cut_short none
SaysWhy P x Memory = ⊤
