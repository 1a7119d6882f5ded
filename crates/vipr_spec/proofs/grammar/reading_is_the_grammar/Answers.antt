use Rattle.vipr_spec.proofs.GrammarWhole.{reads_certificates, reads_texts}
use Rattle.vipr_spec.proofs.grammar.reading_is_the_grammar.Goals as goal

pub returns : goal.returns
returns c = record { tokens = reads_certificates; texts = reads_texts }
