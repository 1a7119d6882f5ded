use Rattle.std.proofs.Common.{◌≡◌, ℕ, take, get_or, map, filter, All}
use Rattle.vipr_spec.specs.{Fraction.ℚ, Fraction.zero_ℚ, Fraction.IsBounded, Reading.is_nonzero}
use Rattle.vipr_linear.proofs.places.nonzero_sums.Given as goal

abbrev pub invariant-loop-variable : goal.invariant-loop-variable
invariant-loop-variable l = record {
  kept : l.entries.items ≡ filter is_nonzero (take l.variable-index (map (λ j. (j, get_or l.sums j zero_ℚ)) l.places));
  bounded : All (λ (e : ℕ × ℚ). IsBounded e.1) l.entries.items;
}
