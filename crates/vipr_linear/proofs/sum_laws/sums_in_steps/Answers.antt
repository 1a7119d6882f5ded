use Rattle.vipr_spec.proofs.Laws.{one_sense, suitable_front, fitting_front}
use Rattle.vipr_linear.proofs.StepByStep.{start_held, suitable_known, fits_known, step_held}
use Rattle.vipr_linear.proofs.StepByStep.{sum_held}
use Rattle.vipr_linear.proofs.sum_laws.sums_in_steps.Goals as goal

pub returns : goal.returns
returns c = assumption (
  start_held,
  suitable_known,
  fits_known,
  step_held,
  suitable_front,
  fitting_front,
  one_sense,
  sum_held,
)
