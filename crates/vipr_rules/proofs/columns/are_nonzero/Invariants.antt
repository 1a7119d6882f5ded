use Rattle.std.proofs.Common.{◌≢◌, ℕ, ◌<◌, slice_index_or}
use Rattle.vipr_spec.specs.Fraction.{zero_ℚ}
use Rattle.vipr_rules.proofs.columns.are_nonzero.Given as goal

abbrev pub invariant-loop-index : goal.invariant-loop-index
invariant-loop-index l = (k d : ℕ) → k < l.index-index
    → slice_index_or l.sums (slice_index_or l.indices k d) zero_ℚ ≢ zero_ℚ
