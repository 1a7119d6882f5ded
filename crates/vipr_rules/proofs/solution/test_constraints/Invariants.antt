use Rattle.vipr_spec.specs.{Certificate.variables, Constraint.Row, Constraint.at}
use Rattle.vipr_linear.specs.Values.{IsLaidOut}
use Rattle.vipr_rules.specs.Solution.{IsValueOf}
use Rattle.vipr_rules.proofs.SolutionLemmas.{TrueUpTo}
use Rattle.vipr_rules.proofs.solution.test_constraints.Given as goal

abbrev pub invariant-loop-i : goal.invariant-loop-i
invariant-loop-i l = (s : Row) → IsLaidOut (variables l.p) (at s) l.point.sums
    → IsValueOf (variables l.p) (at l.p.objective) (at s) l.value → TrueUpTo l.p s l.i
