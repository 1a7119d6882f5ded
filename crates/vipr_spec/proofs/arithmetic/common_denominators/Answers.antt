use Rattle.vipr_spec.proofs.Points.{common_denominator}
use Rattle.vipr_spec.proofs.arithmetic.common_denominators.Goals as goal

pub returns : goal.returns
returns c = common_denominator
