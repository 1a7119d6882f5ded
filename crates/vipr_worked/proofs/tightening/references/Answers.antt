use Rattle.std.proofs.Common.{inl, inr, refl}
use Rattle.vipr_spec.specs.{Fraction.over, Gcd.gcd}
use Rattle.vipr_worked.proofs.tightening.references.Goals as goal

pub returns : goal.returns
unfolding gcd over
returns c = record {
  reason_references_is = refl;
  RefersTo_is = inr (inr (inl refl));
  new_goal_is = refl;
}
