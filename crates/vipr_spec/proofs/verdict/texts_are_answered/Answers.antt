use Rattle.vipr_spec.proofs.Answered.{some_answer}
use Rattle.vipr_spec.proofs.verdict.texts_are_answered.Goals as goal

pub returns : goal.returns
returns c = some_answer
