use Rattle.std.proofs.Common.{◌≡◌, drop}
use Rattle.std.specs.Prelude.{◌↔◌}
use Rattle.vipr_spec.specs.{Constraint.at, Fraction.zero_ℚ}
use Rattle.vipr_linear.specs.Values.{with_values, ValuesFit}
use Rattle.vipr_linear.proofs.values.sum_of_values.Given as goal

abbrev pub invariant-loop-variable : goal.invariant-loop-variable
invariant-loop-variable l = record {
  fits : ValuesFit zero_ℚ l.variable-items (at l.solution.0)
      ↔ ValuesFit l.value (drop l.variable-index l.variable-items) (at l.solution.0);
  sum : with_values l.value (drop l.variable-index l.variable-items) (at l.solution.0) ≡ with_values
      zero_ℚ l.variable-items (at l.solution.0);
}
