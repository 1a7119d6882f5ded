use Rattle.std.proofs.Common.{arith, if◌then◌else◌, Ok, Err, ap, ◌∙◌}
use Rattle.std.proofs.{lemmas.Cmp.nat_eq_equiv, lemmas.Map.Views.list_any-from_Contains}
use Rattle.vipr_spec.specs.Causes as cause
use Rattle.vipr_spec.specs.{count_of, last_of, rule_of, derivation_count_of, variable_of}
use Rattle.vipr_spec.specs.{new_variable_of, spelled_sense, spelled_direction, has_range_of}
use Rattle.vipr_spec.specs.{reference_of, unless_among}
use Rattle.vipr_spec.proofs.refusals.causes_by_token.Goals as goal

pub returns-clause-count : goal.returns-clause-count
unfolding count_of
returns-clause-count c bs e = rw e

pub returns-clause-count_size : goal.returns-clause-count_size
unfolding count_of
returns-clause-count_size c bs n e l = grind arith

pub returns-clause-derivations : goal.returns-clause-derivations
unfolding derivation_count_of
returns-clause-derivations c m bs e = rw e

pub returns-clause-derivations_size : goal.returns-clause-derivations_size
unfolding derivation_count_of
returns-clause-derivations_size c m n bs e l = grind arith

pub returns-clause-variable : goal.returns-clause-variable
unfolding variable_of
returns-clause-variable c n fault bs e = grind arith

pub returns-clause-repeated : goal.returns-clause-repeated
unfolding new_variable_of
returns-clause-repeated c n i before bs e h =
    ap (λ r. unless_among before r) e ∙ ap (λ b. if b then Err cause.repeated_index else Ok i)
    (list_any-from_Contains nat_eq_equiv i before h)

pub returns-clause-sense : goal.returns-clause-sense
unfolding spelled_sense
returns-clause-sense c bs fault e = grind arith

pub returns-clause-direction : goal.returns-clause-direction
unfolding spelled_direction
returns-clause-direction c bs fault e = grind arith

pub returns-clause-claim : goal.returns-clause-claim
unfolding has_range_of
returns-clause-claim c bs fault e = grind arith

pub returns-clause-reason : goal.returns-clause-reason
unfolding rule_of
returns-clause-reason c bs fault e = grind arith

pub returns-clause-reference : goal.returns-clause-reference
unfolding reference_of
returns-clause-reference c bs fault e = grind arith

pub returns-clause-last : goal.returns-clause-last
unfolding last_of reference_of
returns-clause-last c bs fault e = grind arith
