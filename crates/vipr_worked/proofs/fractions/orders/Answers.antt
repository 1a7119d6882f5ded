use Rattle.std.proofs.Common.{refl, arith, lit<, lit≤, pos}
use Rattle.std.proofs.lemmas.Int.{ints}
use Rattle.vipr_spec.proofs.Laws.{same_ℚ}
use Rattle.vipr_spec.specs.{Fraction.over, Fraction.◌*ℚ◌, Fraction.◌+ℚ◌, Gcd.gcd}
use Rattle.vipr_worked.proofs.fractions.orders.Goals as goal

pub returns : goal.returns
unfolding gcd over ◌+ℚ◌ ◌*ℚ◌
returns c = record {
  order_is = (record { cross = omega (arith, ints) }, λ h. let l = h.cross in omega (arith, ints));
  lowest_is = record { positive = lit< tt; apart = refl };
  IsWhole_is = (pos 2, same_ℚ _ _ refl);
  IsBounded_is = (lit≤ tt, lit≤ tt);
  SumFits_is = (lit≤ tt, lit≤ tt, lit≤ tt, lit≤ tt);
  ProductFits_is = (lit≤ tt, lit≤ tt);
}
