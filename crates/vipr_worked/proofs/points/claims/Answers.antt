use Rattle.std.proofs.{Common.refl, Common.arith, lemmas.Int.ints}
use Rattle.vipr_spec.specs.{Fraction.over, Fraction.◌*ℚ◌, Fraction.◌+ℚ◌, Gcd.gcd}
use Rattle.vipr_worked.proofs.points.claims.Goals as goal

pub returns : goal.returns
unfolding gcd over ◌+ℚ◌ ◌*ℚ◌
returns c = record {
  variables_is = refl;
  IsAsGood_is = record { cross = omega (arith, ints) };
  dual_bound_is = (refl, refl);
  primal_bound_is = (refl, refl);
  reaches_is = (refl, refl);
  stays_is = (refl, refl);
  NeedsGoal_is = tt;
}
