use Rattle.vipr_spec.proofs.GrammarNumbers.{reads_naturals}
use Rattle.vipr_spec.proofs.grammar.naturals.Goals as goal

pub returns : goal.returns
returns c = reads_naturals
