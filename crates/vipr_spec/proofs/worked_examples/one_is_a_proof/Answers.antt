use Rattle.vipr_spec.proofs.Example.{valid}
use Rattle.vipr_spec.proofs.worked_examples.one_is_a_proof.Goals as goal

pub returns : goal.returns
returns c = valid
