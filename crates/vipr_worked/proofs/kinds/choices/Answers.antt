use Rattle.std.proofs.Common.{refl}
use Rattle.vipr_spec.specs.Fraction.{over, ◌*ℚ◌, ◌+ℚ◌}
use Rattle.vipr_spec.specs.Reading.{bound_of, has_range_of, rule_of, spelled_direction}
use Rattle.vipr_spec.specs.Reading.{spelled_sense}
use Rattle.vipr_spec.specs.{Digits.natural_after, Digits.natural_of, Gcd.gcd, Number.number_read}
use Rattle.vipr_worked.proofs.kinds.choices.Goals as goal

pub returns : goal.returns
unfolding gcd over ◌+ℚ◌ ◌*ℚ◌ natural_after natural_of number_read bound_of spelled_sense
    spelled_direction has_range_of rule_of
returns c = record {
  number_cause_is = refl;
  or_cause_is = refl;
  number_of_is = (refl, refl);
  bound_of_is = (refl, refl);
  spelled_sense_is = (refl, refl);
  spelled_direction_is = (refl, refl);
  has_range_of_is = (refl, refl, refl);
  rule_of_is = (refl, refl);
  is_nonzero_is = (refl, refl);
}
