use Rattle.std.proofs.Common.{◌≡◌, ℕ, ◌-◌, ◌≤◌, max, length, get_or}
use Rattle.vipr_table.proofs.assumptions.page.lengthen.Given as goal

abbrev pub invariant-loop-words : goal.invariant-loop-words
invariant-loop-words l = record {
  longer : length l.initial.words.items ≤ length l.words.items;
  bound : length l.words.items ≤ max (length l.initial.words.items) l.len;
  same : (k : ℕ) → get_or l.words.items k 0 ≡ get_or l.initial.words.items k 0;
}

abbrev pub decreases-loop-words : goal.decreases-loop-words
decreases-loop-words l = l.len - length l.words.items
