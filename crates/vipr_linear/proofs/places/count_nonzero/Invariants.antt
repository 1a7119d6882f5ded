use Rattle.std.proofs.Common.{◌≡◌, ◌≤◌, take, get_or, map, filter, length}
use Rattle.vipr_spec.specs.{Fraction.zero_ℚ, Reading.is_nonzero}
use Rattle.vipr_linear.proofs.places.count_nonzero.Given as goal

abbrev pub invariant-loop-place : goal.invariant-loop-place
invariant-loop-place l = record {
  within : l.count ≤ l.place-index;
  count : l.count ≡ length (filter is_nonzero (take l.place-index (map (λ j. (j, get_or l.sums j zero_ℚ)) l.places)));
}
