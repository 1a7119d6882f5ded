use Rattle.std.proofs.Common.{suc, ◌+◌, ◌*◌, length}
use Rattle.vipr_linear.specs.declared.row.Solution.{Solution}
use Rattle.vipr_cert.specs.{Items.solution_of, declared.items.Named.Named}
use Rattle.vipr_write.specs.Canonical.{solution_words}
use Rattle.vipr_write.proofs.Weighing.{weighs_next, solution_weight}
use Rattle.vipr_write.proofs.countable.more_solutions.Goals as goal

pub loop-solution-preserved : goal.loop-solution-preserved
loop-solution-preserved c =
    let x = c.solution-item.result in
    weighs_next (λ (x : Named Solution). suc (length (solution_words (solution_of x))))
    c.args.solutions.now c.loop-solution.solution-index x c.args.total c.loop-solution.total
    c.more-total.result (3 + 2 * length c.entries.result.now) c.loop-solution-test.true
    c.solution-item.is c.loop-solution.invariant
    (solution_weight (solution_of x) c.entries.result.now c.entries.ensures.list)
    c.more-total.ensures
