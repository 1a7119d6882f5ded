use Rattle.vipr_spec.proofs.Refusing.{not_live}
use Rattle.vipr_spec.proofs.worked_examples.dropped_ones_are_gone.Goals as goal

pub returns : goal.returns
returns c = not_live
