use Rattle.vipr_spec.proofs.GrammarExample.{example_spelled}
use Rattle.vipr_spec.proofs.grammar.example.Goals as goal

pub returns : goal.returns
returns c = example_spelled
