use Rattle.vipr_spec.proofs.Refusing.{largest, not_bounded}
use Rattle.vipr_spec.proofs.worked_examples.bounds_are_kept.Goals as goal

pub returns : goal.returns
returns c = record { largest = largest; above = not_bounded }
