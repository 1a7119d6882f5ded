use Rattle.vipr_write.proofs.WholeText.{text_spells}
use Rattle.vipr_write.proofs.write.write_certificate_in.Goals as goal

pub returns-then-not-is_countable-clause-law : goal.returns-then-not-is_countable-clause-law
returns-then-not-is_countable-clause-law g c = λ f. text_spells f c.args.certificate.now c.is_countable.ensures.writes

pub returns-in_err-write_text-in-Ok-clause-law : goal.returns-in_err-write_text-in-Ok-clause-law
returns-in_err-write_text-in-Ok-clause-law g c = λ f. text_spells f c.args.certificate.now c.is_countable.ensures.writes

pub returns-in_ok-write_text-in-Ok-clause-law : goal.returns-in_ok-write_text-in-Ok-clause-law
returns-in_ok-write_text-in-Ok-clause-law g c = λ f. text_spells f c.args.certificate.now c.is_countable.ensures.writes

pub returns-in-Err-clause-law : goal.returns-in-Err-clause-law
returns-in-Err-clause-law g c = λ f. text_spells f c.args.certificate.now c.is_countable.ensures.writes
