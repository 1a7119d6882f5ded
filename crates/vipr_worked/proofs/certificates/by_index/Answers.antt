use Rattle.std.proofs.Common.{refl}
use Rattle.vipr_spec.specs.{Fraction.over, Fraction.◌*ℚ◌, Fraction.◌+ℚ◌, Gcd.gcd}
use Rattle.vipr_worked.proofs.certificates.by_index.Goals as goal

pub returns : goal.returns
unfolding gcd over ◌+ℚ◌ ◌*ℚ◌
returns c = record {
  count_is = refl;
  constraint_at_is = refl;
  reason_at_is = (refl, refl);
  known_at_is = refl;
  no_constraint_is = refl;
  before_is = refl;
  count_held_is = refl;
  peak_is = refl;
}
