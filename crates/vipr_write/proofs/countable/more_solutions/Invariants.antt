use Rattle.std.proofs.Common.{suc, length}
use Rattle.vipr_linear.specs.declared.row.Solution.{Solution}
use Rattle.vipr_cert.specs.{Items.solution_of, declared.items.Named.Named}
use Rattle.vipr_write.specs.Canonical.{solution_words}
use Rattle.vipr_write.proofs.Weighing.{Weighs}
use Rattle.vipr_write.proofs.countable.more_solutions.Given as goal

abbrev pub invariant-loop-solution : goal.invariant-loop-solution
invariant-loop-solution l =
    Weighs (λ (x : Named Solution). suc (length (solution_words (solution_of x)))) l.solutions
    l.solution-index l.total-2 l.total
