-- How a verdict is printed, and its exit status. The text has no line feed at its end
use Rattle.std.specs.Prelude.{ℕ, List, ◌++◌, codes, decimal}
use Rattle.vipr_cert.specs.Text.{claim_text}
use Rattle.vipr_check.specs.declared.verdict.Fault.TheVariants.{Memory, Read}
use Rattle.vipr_check.specs.declared.verdict.Place.TheVariants.{Byte, Sol, Der, End}
use Rattle.vipr_check.specs.declared.verdict.Verdict.{Verdict}
use Rattle.vipr_check.specs.declared.verdict.Verdict.TheVariants.{Verified, Refused}
use Rattle.vipr_check.specs.{declared.verdict.Fault.Fault, declared.verdict.Place.Place}
use Rattle.vipr_check.specs.{declared.verdict.Refusal.Refusal, declared.verdict.Report.Report}

abbrev pub place_text : Place → List ℕ
place_text (Byte offset) = codes "byte " ++ decimal offset
place_text (Sol number) = codes "SOL " ++ decimal number
place_text (Der index) = codes "DER " ++ decimal index
place_text End = codes "end"

abbrev pub refusal_text : Refusal → List ℕ
refusal_text r = codes "refused " ++ (decimal r.cause ++ (codes " at " ++ place_text r.place))

abbrev pub report_text : Report → List ℕ
report_text r = codes "verified " ++ (claim_text r.claim ++ (codes "\nsolutions " ++
    (decimal r.solutions ++ (codes " derived "
    ++ (decimal r.derived ++ (codes " peak " ++ decimal r.peak))))))

abbrev pub verdict_text : Verdict → List ℕ
verdict_text (Verified report) = report_text report
verdict_text (Refused refusal) = refusal_text refusal

-- 0 if the certificate is verified, 1 if it is refused
abbrev pub verdict_status : Verdict → ℕ
verdict_status (Verified report) = 0
verdict_status (Refused refusal) = 1

-- why there is no verdict
abbrev pub no_verdict_text : Fault → List ℕ
no_verdict_text Read = codes "fault read"
no_verdict_text Memory = codes "fault memory"
