use Rattle.std.proofs.Common.{refl}
use Rattle.vipr_spec.specs.{Fraction.over, Gcd.gcd}
use Rattle.vipr_worked.proofs.tightening.an_assumption_goes.Goals as goal

pub returns : goal.returns
unfolding gcd over
returns c = record {
  goes = λ p a b z x1 x2 x3 x4 x5. refl;
  branch = λ p a b z x1 x2 x3 x4 x5. refl;
}
