use Rattle.std.proofs.Common.{refl}
use Rattle.vipr_worked.proofs.tightening.split_assumptions_stay.Goals as goal

pub returns : goal.returns
returns c = λ p a x1 x2 x3. refl
