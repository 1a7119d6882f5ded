-- How an outcome is printed, and its exit status. The text has no line feed at its end
use Rattle.std.specs.Prelude.{ℕ, List, ◌++◌, codes, decimal}
use Rattle.vipr_check.specs.Text.{refusal_text}
use Rattle.vipr_tighten.specs.declared.outcome.Outcome.{Outcome}
use Rattle.vipr_tighten.specs.declared.outcome.Outcome.TheVariants.{Tightened, Refused}
use Rattle.vipr_tighten.specs.declared.outcome.TightenFault.{TightenFault}
use Rattle.vipr_tighten.specs.declared.outcome.TightenFault.TheVariants as fault

abbrev pub outcome_text : Outcome → List ℕ
outcome_text (Tightened kept removed before after) = codes "kept " ++ (decimal kept
    ++ (codes " removed " ++ (decimal removed ++ (codes " peak " ++ (decimal before
    ++ (codes " " ++ decimal after))))))
outcome_text (Refused refusal) = refusal_text refusal

-- 0 if the certificate is tightened, 1 if it is refused
abbrev pub outcome_status : Outcome → ℕ
outcome_status (Tightened kept removed before after) = 0
outcome_status (Refused refusal) = 1

-- why there is no outcome
abbrev pub no_outcome_text : TightenFault → List ℕ
no_outcome_text fault.Read = codes "fault read"
no_outcome_text (fault.Memory accepted) = codes "fault memory"
no_outcome_text (fault.Write accepted) = codes "fault write after " ++ decimal accepted
