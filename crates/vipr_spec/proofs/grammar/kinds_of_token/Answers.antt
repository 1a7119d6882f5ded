use Rattle.vipr_spec.proofs.{GrammarBounds.kinds_of_number, GrammarTokens.kinds_of_token}
use Rattle.vipr_spec.proofs.grammar.kinds_of_token.Goals as goal

pub returns : goal.returns
returns c = record { words = kinds_of_token; numbers = kinds_of_number }
