use Rattle.std.proofs.Common.{refl}
use Rattle.vipr_spec.specs.{Fraction.over, Gcd.gcd}
use Rattle.vipr_worked.proofs.tightening.a_cutoff_goes.Goals as goal

pub returns : goal.returns
unfolding gcd over
returns c = record { goes = λ p ss a x y. refl; again = λ p ss a y. refl }
