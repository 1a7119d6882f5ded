use Rattle.std.proofs.Common.{◌+◌, ◌^◌, ◌<◌, length, arith}
use Rattle.std.specs.List.{sum_by}
use Rattle.vipr_write.specs.{Canonical.problem_lines, Steps.step_weight, Weight.weight}
use Rattle.vipr_write.proofs.StepLengths.{text_countable}
use Rattle.vipr_write.proofs.countable.are_countable.Goals as goal

pub returns : goal.returns
returns c = λ t x of.
    let p = c.args.problem.now in
    let ls = c.args.solutions.now in
    let few : weight (problem_lines p) + 3 + length ls + sum_by (step_weight c.args.statements.now)
    c.args.steps.now < 2 ^ 48 =
    grind (
      arith,
      t,
      c.problem_weight.ensures,
      c.more-total.ensures,
      c.more-total-2.ensures,
      c.more_steps-total.ensures,
    ) in
    text_countable x p ls c.args.statements.now c.args.steps.now of few
