use Rattle.vipr_write.proofs.WholeText.{text_spells}
use Rattle.vipr_write.proofs.written_steps.write_steps.Goals as goal

pub returns-then-not-are_countable-clause-law : goal.returns-then-not-are_countable-clause-law
returns-then-not-are_countable-clause-law g c = λ x of f. text_spells f x of.writes

pub returns-in_err-write_parts-in-Ok-clause-law : goal.returns-in_err-write_parts-in-Ok-clause-law
returns-in_err-write_parts-in-Ok-clause-law g c = λ x of f. text_spells f x of.writes

pub returns-in_ok-write_parts-in-Ok-clause-law : goal.returns-in_ok-write_parts-in-Ok-clause-law
returns-in_ok-write_parts-in-Ok-clause-law g c = λ x of f. text_spells f x of.writes

pub returns-in-Err-clause-law : goal.returns-in-Err-clause-law
returns-in-Err-clause-law g c = λ x of f. text_spells f x of.writes
