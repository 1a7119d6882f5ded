use Rattle.std.proofs.Common.{◌≡◌, ℕ, ◌-◌, ◌≤◌, true, take, length}
use Rattle.vipr_table.specs.Rising.{has}
use Rattle.vipr_table.proofs.assumptions.merge.has_each.Given as goal

abbrev pub invariant-loop-y : goal.invariant-loop-y
invariant-loop-y l = record {
  within : l.i ≤ length l.xs;
  found : (q : ℕ) → has (take l.y-index l.ys) q ≡ true → has l.xs q ≡ true;
}

abbrev pub invariant-loop-i : goal.invariant-loop-i
invariant-loop-i l = l.i ≤ length l.xs

abbrev pub decreases-loop-i : goal.decreases-loop-i
decreases-loop-i l = length l.xs - l.i
