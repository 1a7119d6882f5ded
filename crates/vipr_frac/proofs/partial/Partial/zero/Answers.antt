use Rattle.std.proofs.Common.{refl}
use Rattle.vipr_frac.proofs.partial.Partial.zero.Goals as goal

pub returns : goal.returns
returns c = refl
