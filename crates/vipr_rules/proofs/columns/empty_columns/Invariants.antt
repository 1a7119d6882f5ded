use Rattle.std.proofs.Common.{◌≡◌, ℕ, [], length}
use Rattle.vipr_rules.specs.Columns.{column_at}
use Rattle.vipr_rules.proofs.columns.empty_columns.Given as goal

abbrev pub invariant-loop-count : goal.invariant-loop-count
invariant-loop-count l = record {
  empty : (j : ℕ) → column_at l.columns.items j ≡ [];
  count : length l.columns.items ≡ l.count-index;
}
