use Rattle.vipr_spec.proofs.TightenLimits.{can_write}
use Rattle.vipr_spec.proofs.tightening.can_be_written.Goals as goal

pub returns : goal.returns
returns c = can_write
