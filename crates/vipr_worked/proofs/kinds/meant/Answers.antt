use Rattle.std.proofs.Common.{refl}
use Rattle.vipr_spec.specs.Fraction.{over, ◌*ℚ◌, ◌+ℚ◌}
use Rattle.vipr_spec.specs.Reading.{count_of, derivation_count_of, last_of, new_variable_of}
use Rattle.vipr_spec.specs.Reading.{reference_of, variable_of}
use Rattle.vipr_spec.specs.{Digits.natural_after, Digits.natural_of, Gcd.gcd}
use Rattle.vipr_worked.proofs.kinds.meant.Goals as goal

pub returns : goal.returns
unfolding gcd over ◌+ℚ◌ ◌*ℚ◌ natural_after natural_of count_of derivation_count_of variable_of
    new_variable_of reference_of last_of
returns c = record {
  word_of_is = (refl, refl);
  name_of_is = refl;
  at_most_or_is = (refl, refl);
  count_of_is = (refl, refl, refl);
  derivation_count_of_is = (refl, refl);
  below_is = (refl, refl);
  variable_of_is = (refl, refl);
  unless_among_is = refl;
  new_variable_of_is = refl;
  reference_of_is = (refl, refl);
  some_of_is = refl;
  last_of_is = (refl, refl, refl);
}
