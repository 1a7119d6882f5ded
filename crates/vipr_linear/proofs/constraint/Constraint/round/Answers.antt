use Rattle.vipr_linear.proofs.Roundings.{rounding_dominates}
use Rattle.vipr_linear.proofs.constraint.Constraint.round.Goals as goal

pub returns-clause-dominates : goal.returns-clause-dominates
returns-clause-dominates c d = rounding_dominates _ _ d c.rounded.ensures
