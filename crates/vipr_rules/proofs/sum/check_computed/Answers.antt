use Rattle.std.proofs.Common.{rules, ◌≡◌, sym, ap, subst, ◌∙◌}
use Rattle.vipr_spec.specs.Steps.{IsSum}
use Rattle.vipr_linear.specs.{Accumulator.held_condition, Constraint.condition_of}
use Rattle.vipr_rules.specs.Apply.{DominatesBy}
use Rattle.vipr_rules.proofs.ComputedLemmas.{computed_passes}
use Rattle.vipr_rules.proofs.sum.check_computed.Goals as goal
use Rattle.vipr_rules.proofs.sum.check_computed.Goals.{After-check_finished, Then-follows, in-Sum, in-Rounding}

follows : (c : Then-follows) → DominatesBy c.args.computed c.args.ints.now
    (held_condition c.args.scratch.now) (condition_of c.args.stated.now)
follows c = search rules

-- the comparison left the sum as it was
kept : (c : After-check_finished) → c.match-computed.scratch ≡ c.args.scratch.now
kept c = elim c.match-computed.branch [
  | in-Sum w ↦ w.scratch-is ∙ w.dominates-follows.ensures.kept
  | in-Rounding w ↦ w.scratch-is ∙ w.rounds_to-follows.ensures.kept
]

pub returns-then-follows-clause-tests : goal.returns-then-follows-clause-tests
returns-then-follows-clause-tests c = λ P d e es summed ints says.
    computed_passes P d e es c.args.computed (held_condition c.args.scratch.now) c.args.stated.now
    c.args.ints.now summed ints says (follows c)

pub returns-clause-tests : goal.returns-clause-tests
returns-clause-tests c = λ P d e es summed ints says.
    let same = ap held_condition (kept (goal.at.returns-clause-tests c).After-check_finished) in
    c.check_finished.ensures.tests P d e es (subst (IsSum d es) (sym same) summed) ints says
