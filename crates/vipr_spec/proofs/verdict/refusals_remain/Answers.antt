use Rattle.vipr_spec.proofs.Standing.{refusal_remains}
use Rattle.vipr_spec.proofs.verdict.refusals_remain.Goals as goal

pub returns : goal.returns
returns c = λ P r x h t n. refusal_remains P r x (t, n) h
