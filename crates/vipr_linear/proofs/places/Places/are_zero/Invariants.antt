use Rattle.std.proofs.Common.{◌≡◌, ◌<◌, ℕ, get_or}
use Rattle.vipr_spec.specs.Fraction.{zero_ℚ}
use Rattle.vipr_linear.proofs.places.Places.are_zero.Given as goal

abbrev pub invariant-loop-place : goal.invariant-loop-place
invariant-loop-place l = (k : ℕ) → k < l.place-index → get_or l.self (get_or l.place-items k 0) zero_ℚ ≡ zero_ℚ
