use Rattle.std.proofs.Common.{refl}
use Rattle.vipr_spec.specs.{Fraction.over, Fraction.◌*ℚ◌, Fraction.◌+ℚ◌, Gcd.gcd}
use Rattle.vipr_worked.proofs.certificates.alive.Goals as goal

pub returns : goal.returns
unfolding gcd over ◌+ℚ◌ ◌*ℚ◌
returns c = record {
  is_assumption_is = (refl, refl);
  lasts_to_is = (refl, refl, refl);
  is_live_is = (refl, refl);
}
