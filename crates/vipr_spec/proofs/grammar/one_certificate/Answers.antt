use Rattle.vipr_spec.proofs.GrammarWhole.{one_certificate}
use Rattle.vipr_spec.proofs.grammar.one_certificate.Goals as goal

pub returns : goal.returns
returns c = one_certificate
