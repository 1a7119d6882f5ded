use Rattle.std.proofs.Common.{drop}
use Rattle.vipr_linear.proofs.Points.{WholeOrLeft}
use Rattle.vipr_linear.proofs.values.first_fractional.Given as goal

abbrev pub invariant-loop-variable : goal.invariant-loop-variable
invariant-loop-variable l = WholeOrLeft l.ints l.solution.0 (drop l.variable-index l.variable-items)
