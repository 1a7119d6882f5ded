use Rattle.std.proofs.Common.{refl}
use Rattle.vipr_spec.proofs.Laws.{number_sound}
use Rattle.vipr_spec.specs.Fraction.{over, ◌*ℚ◌, ◌+ℚ◌}
use Rattle.vipr_spec.specs.{Digits.natural_after, Digits.natural_of, Gcd.gcd, Number.number_read}
use Rattle.vipr_worked.proofs.numbers.fractions_read.Goals as goal

pub returns : goal.returns
unfolding gcd over ◌+ℚ◌ ◌*ℚ◌ natural_after natural_of number_read
returns c = record {
  written_fraction_is = (refl, refl);
  of_parts_is = refl;
  number_read_is = (refl, refl, refl);
  SpellsNumber_is = number_sound _ _ refl;
}
