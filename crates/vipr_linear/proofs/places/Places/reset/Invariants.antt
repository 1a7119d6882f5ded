use Rattle.std.proofs.Common.{◌≡◌, ◌≢◌, ℕ, drop, get_or, nat_eq, true, length}
use Rattle.std.specs.List.{list_any}
use Rattle.vipr_spec.specs.Fraction.{zero_ℚ}
use Rattle.vipr_linear.proofs.places.Places.reset.Given as goal

abbrev pub invariant-loop-place : goal.invariant-loop-place
invariant-loop-place l = record {
  places : length l.self-inside.1.0.items ≡ length l.fn.self;
  sums : (j : ℕ) → get_or l.self-inside.1.0.items j zero_ℚ ≢ zero_ℚ
      → list_any (nat_eq j) (drop l.place-index l.place-items) ≡ true;
}
