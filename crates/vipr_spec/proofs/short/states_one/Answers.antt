use Rattle.vipr_spec.proofs.OneStated.{states_one}
use Rattle.vipr_spec.proofs.short.states_one.Goals as goal

pub returns : goal.returns
returns c = states_one
