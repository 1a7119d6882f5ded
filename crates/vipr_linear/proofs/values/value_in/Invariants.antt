use Rattle.std.proofs.Common.{◌≡◌, drop}
use Rattle.std.specs.Prelude.{◌↔◌}
use Rattle.vipr_spec.specs.Fraction.{zero_ℚ}
use Rattle.vipr_linear.specs.Values.{point_of, with_values, ValuesFit}
use Rattle.vipr_linear.proofs.values.value_in.Given as goal

abbrev pub invariant-loop-variable : goal.invariant-loop-variable
invariant-loop-variable l = record {
  fits : ValuesFit zero_ℚ l.variable-items (point_of l.places)
      ↔ ValuesFit l.value (drop l.variable-index l.variable-items) (point_of l.places);
  sum : with_values l.value (drop l.variable-index l.variable-items)
      (point_of l.places) ≡ with_values zero_ℚ l.variable-items (point_of l.places);
}
