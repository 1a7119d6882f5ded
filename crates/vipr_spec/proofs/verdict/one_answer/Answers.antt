use Rattle.vipr_spec.proofs.Reported.{one_answer, one_detail}
use Rattle.vipr_spec.proofs.verdict.one_answer.Goals as goal

pub returns : goal.returns
returns c = record { answer = one_answer; detail = one_detail }
