use Rattle.vipr_spec.specs.Fraction.{over, ◌*ℚ◌, ◌+ℚ◌}
use Rattle.vipr_spec.specs.Reading.{by_read, constraint_read, count_of, counted_read}
use Rattle.vipr_spec.specs.Reading.{derivation_count_of, derivation_read, derivations_read, end_of}
use Rattle.vipr_spec.specs.Reading.{entries_read, entry_read, first_token, last_of, new_variable_of}
use Rattle.vipr_spec.specs.Reading.{pair_read, pairs_read, reason_read, reference_of, read_each}
use Rattle.vipr_spec.specs.Reading.{row_read, rule_of, spelled_sense, variable_of}
use Rattle.vipr_spec.specs.Tokens.{is_cut, is_white, token_here, tokens_after_front, tokens_from}
use Rattle.vipr_spec.specs.{Digits.natural_after, Digits.natural_of, Gcd.gcd, Number.number_read}
use Rattle.vipr_worked.proofs.reading.steps.Goals as goal

pub returns : goal.returns
unfolding gcd over ◌+ℚ◌ ◌*ℚ◌ tokens_from tokens_after_front is_white token_here is_cut natural_after
    natural_of number_read count_of derivation_count_of variable_of new_variable_of reference_of
    last_of spelled_sense rule_of first_token read_each pair_read pairs_read counted_read row_read
    constraint_read derivations_read entry_read entries_read by_read reason_read derivation_read
    end_of
returns c = assumption
