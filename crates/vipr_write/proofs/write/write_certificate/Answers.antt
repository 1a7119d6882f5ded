use Rattle.vipr_write.specs.declared.form.Form.TheVariants.{Canonical}
use Rattle.vipr_write.proofs.write.write_certificate.Goals as goal

pub returns-clause-law : goal.returns-clause-law
returns-clause-law g c = c.write_certificate_in.ensures.law Canonical
