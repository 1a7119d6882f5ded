use Rattle.std.proofs.Common.{refl}
use Rattle.vipr_spec.specs.Gcd.{gcd}
use Rattle.vipr_worked.proofs.fractions.divisors.Goals as goal

pub returns : goal.returns
unfolding gcd
returns c = record {
  euclid_is = refl;
  gcd_is = (refl, refl);
}
