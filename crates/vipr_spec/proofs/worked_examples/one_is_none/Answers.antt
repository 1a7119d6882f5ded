use Rattle.vipr_spec.proofs.Example.{invalid}
use Rattle.vipr_spec.proofs.worked_examples.one_is_none.Goals as goal

pub returns : goal.returns
returns c = invalid
