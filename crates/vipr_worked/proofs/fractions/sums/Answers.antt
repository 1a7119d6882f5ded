use Rattle.std.proofs.Common.{refl}
use Rattle.vipr_spec.proofs.Laws.{same_ℚ}
use Rattle.vipr_spec.specs.{Fraction.neg_ℚ, Fraction.over, Fraction.◌*ℚ◌, Fraction.◌+ℚ◌, Gcd.gcd}
use Rattle.vipr_worked.proofs.fractions.sums.Goals as goal

pub returns : goal.returns
unfolding gcd over ◌+ℚ◌ ◌*ℚ◌ neg_ℚ
returns c = record {
  over_is = same_ℚ _ _ refl;
  whole_is = refl;
  zero_is = refl;
  sum_is = same_ℚ _ _ refl;
  product_is = same_ℚ _ _ refl;
  neg_is = same_ℚ _ _ refl;
  most_is = refl;
}
