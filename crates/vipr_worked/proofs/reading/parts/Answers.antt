use Rattle.vipr_spec.specs.Fraction.{over, ◌*ℚ◌, ◌+ℚ◌}
use Rattle.vipr_spec.specs.Reading.{constraint_read, count_of, counted_read, first_token}
use Rattle.vipr_spec.specs.Reading.{new_variable_of, pair_read, pairs_read, row_read, solution_read}
use Rattle.vipr_spec.specs.Reading.{spelled_sense, variable_of, vector_read}
use Rattle.vipr_spec.specs.Tokens.{is_cut, is_white, token_here, tokens_after_front, tokens_from}
use Rattle.vipr_spec.specs.{Digits.natural_after, Digits.natural_of, Gcd.gcd, Number.number_read}
use Rattle.vipr_worked.proofs.reading.parts.Goals as goal

pub returns : goal.returns
unfolding gcd over ◌+ℚ◌ ◌*ℚ◌ tokens_from tokens_after_front is_white token_here is_cut natural_after
    natural_of number_read count_of variable_of new_variable_of spelled_sense first_token pair_read
    pairs_read counted_read vector_read row_read constraint_read solution_read
returns c = assumption
