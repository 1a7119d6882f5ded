use Rattle.std.proofs.Common.{inr, subst}
use Rattle.vipr_spec.specs.Constraint.{IsSplit}
use Rattle.vipr_linear.specs.Constraint.{condition_of}
use Rattle.vipr_rules.proofs.BranchLemmas.{split_stops}
use Rattle.vipr_rules.proofs.branches.check_split.Goals as goal

pub returns-clause-tests : goal.returns-clause-tests
returns-clause-tests c = λ P d e l1 l2 profile same first second.
    inr (split_stops P d e l1 l2 c.args.first.now c.args.second.now c.args.ints.now same first
    second (λ h. let t =
    c.splits.ensures.1
    (subst (λ Q. IsSplit Q c.args.ints.now (condition_of c.args.first.now)
    (condition_of c.args.second.now)) profile h) in let f = c.if-splits.false in absurd (cc)) _
    c.in_ok-not_split.ensures)
