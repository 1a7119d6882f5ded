use Rattle.vipr_rules.proofs.BranchLemmas.{assumed_stops}
use Rattle.std.proofs.Common.{sym, ◌∙◌}
use Rattle.vipr_rules.proofs.branches.check_assumption.Goals as goal

pub returns-else-is_assumption-clause-tests : goal.returns-else-is_assumption-clause-tests
returns-else-is_assumption-clause-tests c = λ P d e is. assumed_stops P d e c.args.index _ is
    (sym c.is_assumption.ensures ∙ c.if-is_assumption.false)
