use Rattle.std.proofs.Common.{take}
use Rattle.std.specs.List.{flat_map}
use Rattle.vipr_bytes.specs.Puts.{Puts}
use Rattle.vipr_write.specs.Steps.{step_line}
use Rattle.vipr_write.proofs.steps.put_steps.Given as goal

abbrev pub invariant-loop-step : goal.invariant-loop-step
invariant-loop-step g l = Puts g.O.Out.carries l.initial.out l.out
    (flat_map (step_line l.statements) (take l.step-index l.steps))
