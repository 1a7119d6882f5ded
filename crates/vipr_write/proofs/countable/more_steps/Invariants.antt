use Rattle.vipr_write.specs.Steps.{step_weight}
use Rattle.vipr_write.proofs.Weighing.{Weighs}
use Rattle.vipr_write.proofs.countable.more_steps.Given as goal

abbrev pub invariant-loop-step : goal.invariant-loop-step
invariant-loop-step l = Weighs (step_weight l.statements) l.steps l.step-index l.total-2 l.total
