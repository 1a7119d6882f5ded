use Rattle.vipr_spec.proofs.Optimum.{optimal}
use Rattle.vipr_spec.proofs.worked_examples.one_has_each_reason.Goals as goal

pub returns : goal.returns
returns c = optimal
