use Rattle.std.proofs.Common.{◌≡◌, ℕ, ◌+◌, ◌<◌, length, get_or, bit_or}
use Rattle.vipr_table.specs.Bits.{word_at}
use Rattle.vipr_table.proofs.assumptions.page.united.Given as goal

abbrev pub invariant-loop-number : goal.invariant-loop-number
invariant-loop-number l = record {
  count : l.start + length l.all.items ≡ l.number;
  each : (k : ℕ) → k < length l.all.items → get_or l.all.items k 0
      ≡ bit_or (word_at l.first l.words (l.start + k)) (word_at l.other l.others (l.start + k));
}
