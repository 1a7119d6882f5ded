use Rattle.std.proofs.{Common.refl, Common.arith, Common.lit≤, Common.pos, lemmas.Int.ints}
use Rattle.vipr_spec.proofs.Laws.{same_ℚ}
use Rattle.vipr_spec.specs.{Fraction.neg_ℚ, Fraction.over, Fraction.◌*ℚ◌, Fraction.◌+ℚ◌, Gcd.gcd}
use Rattle.vipr_worked.proofs.points.values.Goals as goal

pub returns : goal.returns
unfolding gcd over ◌+ℚ◌ ◌*ℚ◌ neg_ℚ
returns c = record {
  value_is = refl;
  sum_over_is = refl;
  point_over_is = same_ℚ _ _ refl;
  signed_multiplier_is = (refl, refl, refl);
  pull_is = refl;
  Compares_is = record { cross = omega (arith, ints) };
  PartialSumsFit_is = ((lit≤ tt, lit≤ tt, lit≤ tt, lit≤ tt), ((lit≤ tt, lit≤ tt, lit≤ tt, lit≤ tt), tt));
  LeavesNone_is = (pos 0, refl, refl);
}
