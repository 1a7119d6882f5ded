use Rattle.std.proofs.Common.{subst, sym, length}
use Rattle.vipr_table.specs.Table.{DerivedBelow}
use Rattle.vipr_table.proofs.Laws.{DerivedBelow-empty}
use Rattle.vipr_tests.proofs.tests.rules.follows.Goals as goal

pub apply-answer-requires-clause-rows : goal.apply-answer-requires-clause-rows
apply-answer-requires-clause-rows g c =
    subst (DerivedBelow (length c.problem-problem.result.now.names)) (sym c.new-rows.ensures)
    (DerivedBelow-empty _ _)
