use Rattle.std.proofs.Common.{◌≡◌, ◌<◌, ℕ, get_or}
use Rattle.vipr_spec.specs.Fraction.{ℚ, zero_ℚ}
use Rattle.vipr_linear.proofs.places.have_each.Given as goal

abbrev pub invariant-loop-variable : goal.invariant-loop-variable
invariant-loop-variable l = (k : ℕ) (d : ℕ × ℚ) → k < l.variable-index
    → get_or l.sums (get_or l.entries k d).0 zero_ℚ ≡ (get_or l.entries k d).1
