-- The definitions computed at a text
use Rattle.std.proofs.Common.{◌≡◌, Ok, refl}
use Rattle.vipr_spec.specs.{tokens_from, tokens_after_front, is_white, token_here, is_cut}
use Rattle.vipr_spec.specs.{natural_after, natural_of, number_read, first_token, count_of}
use Rattle.vipr_spec.specs.{derivation_count_of, variable_of, new_variable_of, reference_of}
use Rattle.vipr_spec.specs.{last_of, bound_of, spelled_sense, spelled_direction, has_range_of}
use Rattle.vipr_spec.specs.{rule_of, read_each, pair_read, pairs_read, counted_read, vector_read}
use Rattle.vipr_spec.specs.{row_read, constraint_read, version_read, names_read, integers_read}
use Rattle.vipr_spec.specs.{objective_read, constraints_read, range_read, claim_read, problem_read}
use Rattle.vipr_spec.specs.{solution_read, derivations_read, entry_read, entries_read, by_read}
use Rattle.vipr_spec.specs.{reason_read, derivation_read, end_of, certificate_read, whole_text}
use Rattle.vipr_spec.specs.Grammar.{Spells}
use Rattle.vipr_spec.specs.ExampleText.{example_text, example_certificate}
use Rattle.vipr_spec.proofs.GrammarWhole.{reads_texts}

example_read : certificate_read (whole_text example_text) ≡ Ok example_certificate
unfolding tokens_from tokens_after_front is_white token_here is_cut natural_after natural_of
    number_read first_token count_of derivation_count_of variable_of new_variable_of reference_of
    last_of bound_of spelled_sense spelled_direction has_range_of rule_of read_each pair_read
    pairs_read counted_read vector_read row_read constraint_read version_read names_read
    integers_read objective_read constraints_read range_read claim_read problem_read solution_read
    derivations_read entry_read entries_read by_read reason_read derivation_read end_of
    certificate_read
example_read = refl

pub example_spelled : Spells example_text example_certificate
example_spelled = (reads_texts example_text example_certificate).0 example_read
