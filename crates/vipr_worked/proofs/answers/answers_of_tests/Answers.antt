use Rattle.std.proofs.Common.{refl}
use Rattle.vipr_spec.specs.Reading.{bound_of, by_read, claim_read, constraint_read}
use Rattle.vipr_spec.specs.Reading.{constraints_read, count_of, counted_read, derivation_count_of}
use Rattle.vipr_spec.specs.Reading.{derivation_read, derivations_read, end_of, entries_read}
use Rattle.vipr_spec.specs.Reading.{entry_read, first_token, has_range_of, integers_read, last_of}
use Rattle.vipr_spec.specs.Reading.{names_read, new_variable_of, objective_read, pair_read}
use Rattle.vipr_spec.specs.Reading.{pairs_read, problem_read, range_read, reason_read, reference_of}
use Rattle.vipr_spec.specs.Reading.{read_each, row_read, rule_of, solution_read, spelled_direction}
use Rattle.vipr_spec.specs.Reading.{spelled_sense, variable_of, vector_read, version_read}
use Rattle.vipr_spec.specs.Tokens.{is_cut, is_white, token_here, tokens_after_front, tokens_from}
use Rattle.vipr_spec.specs.{Digits.natural_after, Digits.natural_of, Fraction.over, Fraction.◌*ℚ◌}
use Rattle.vipr_spec.specs.{Fraction.◌+ℚ◌, Gcd.gcd, Number.number_read, Steps.entry_tests}
use Rattle.vipr_spec.specs.{Tests.numbered_tests, Verdict.found_in, Verdict.items_read}
use Rattle.vipr_worked.proofs.answers.answers_of_tests.Goals as goal

pub returns : goal.returns
unfolding gcd over ◌+ℚ◌ ◌*ℚ◌ tokens_from tokens_after_front is_white token_here is_cut natural_after
    natural_of number_read count_of derivation_count_of variable_of new_variable_of reference_of
    last_of bound_of spelled_sense spelled_direction has_range_of rule_of first_token read_each
    pair_read pairs_read counted_read vector_read row_read constraint_read version_read names_read
    integers_read objective_read constraints_read range_read claim_read problem_read solution_read
    derivations_read entry_read entries_read by_read reason_read derivation_read end_of entry_tests
    items_read numbered_tests found_in
returns c = record {
  answer_of_test_is = refl;
  last_tests_is = (refl, refl);
  items_read_is = refl;
  found_in_is = refl;
  name_at_is = (refl, refl);
  finite_primal_is = refl;
}
