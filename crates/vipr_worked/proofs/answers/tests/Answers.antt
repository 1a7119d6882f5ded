use Rattle.std.proofs.Common.{refl}
use Rattle.vipr_spec.specs.{Fraction.over, Fraction.◌*ℚ◌, Fraction.◌+ℚ◌, Gcd.gcd, Steps.entry_tests}
use Rattle.vipr_worked.proofs.answers.tests.Goals as goal

pub returns : goal.returns
unfolding gcd over ◌+ℚ◌ ◌*ℚ◌ entry_tests
returns c = record {
  reference_tests_is = (refl, refl);
  step_tests_is = refl;
  step_cause_is = (refl, refl);
  solution_cause_is = refl;
}
