use Rattle.std.proofs.{Common.refl, Common.codes, Common.arith, lemmas.Int.ints}
use Rattle.vipr_spec.specs.{Fraction.over, Fraction.◌*ℚ◌, Fraction.◌+ℚ◌, Gcd.gcd}
use Rattle.vipr_worked.proofs.short.computed.Goals as goal

pub returns : goal.returns
unfolding gcd over ◌+ℚ◌ ◌*ℚ◌
returns c = record {
  whole_is = refl;
  value_is = refl;
  point_of_is = (refl, refl);
  IsAsGood_is = (record { cross = omega (arith, ints) }, record { cross = omega (arith, ints) });
  is_white_is = (refl, refl, refl);
  without_front_is = refl;
  unless_empty_is = (refl, refl);
  tokens_is = refl;
  word_is = refl;
  any_is = (codes "x_1", refl);
  bound_is = refl;
  claim_is = refl;
}
