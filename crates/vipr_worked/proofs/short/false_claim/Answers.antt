use Rattle.std.proofs.{Common.arith, lemmas.Int.ints}
use Rattle.vipr_spec.specs.{Fraction.over, Fraction.◌*ℚ◌, Fraction.◌+ℚ◌, Gcd.gcd}
use Rattle.vipr_worked.proofs.FalseClaim.{stated, means_nothing}
use Rattle.vipr_worked.proofs.short.false_claim.Goals as goal

pub returns : goal.returns
unfolding gcd over ◌+ℚ◌ ◌*ℚ◌
returns c = record {
  States_is = stated;
  Holds_is = (λ x f. record { cross = omega (arith, ints) }, tt);
  Means_is = means_nothing;
}
