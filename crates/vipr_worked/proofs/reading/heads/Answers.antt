use Rattle.vipr_spec.specs.Fraction.{over, ◌*ℚ◌, ◌+ℚ◌}
use Rattle.vipr_spec.specs.Reading.{bound_of, claim_read, constraint_read, constraints_read}
use Rattle.vipr_spec.specs.Reading.{count_of, counted_read, first_token, has_range_of}
use Rattle.vipr_spec.specs.Reading.{integers_read, names_read, new_variable_of, objective_read}
use Rattle.vipr_spec.specs.Reading.{pair_read, pairs_read, problem_read, range_read, read_each}
use Rattle.vipr_spec.specs.Reading.{row_read, spelled_direction, spelled_sense, variable_of}
use Rattle.vipr_spec.specs.Reading.{vector_read, version_read}
use Rattle.vipr_spec.specs.Tokens.{is_cut, is_white, token_here, tokens_after_front, tokens_from}
use Rattle.vipr_spec.specs.{Digits.natural_after, Digits.natural_of, Gcd.gcd, Number.number_read}
use Rattle.vipr_worked.proofs.reading.heads.Goals as goal

pub returns : goal.returns
unfolding gcd over ◌+ℚ◌ ◌*ℚ◌ tokens_from tokens_after_front is_white token_here is_cut natural_after
    natural_of number_read count_of variable_of new_variable_of bound_of spelled_sense
    spelled_direction has_range_of first_token read_each pair_read pairs_read counted_read
    vector_read row_read constraint_read version_read names_read integers_read objective_read
    constraints_read range_read claim_read problem_read
returns c = assumption
