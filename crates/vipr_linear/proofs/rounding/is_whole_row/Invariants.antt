use Rattle.std.proofs.Common.{All, take}
use Rattle.vipr_spec.specs.{Constraint.IsInteger, Fraction.IsWhole}
use Rattle.vipr_linear.proofs.rounding.is_whole_row.Given as goal

abbrev pub invariant-loop-variable : goal.invariant-loop-variable
invariant-loop-variable l = All (λ e. IsWhole e.1 × IsInteger l.ints e.0) (take l.variable-index l.variable-items)
