use Rattle.vipr_write.proofs.ExampleText.{example_is, compact_is}
use Rattle.vipr_write.proofs.canonical.worked_example.Goals as goal

pub returns-clause-canonical : goal.returns-clause-canonical
returns-clause-canonical c = example_is

pub returns-clause-compact : goal.returns-clause-compact
returns-clause-compact c = compact_is
