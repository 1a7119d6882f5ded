-- A run of words, with a bit for each number.
use Rattle.std.specs.Prelude.{ℕ, zero, suc, ◌+◌, ◌-◌, ◌*◌, ◌/◌, ◌%◌, Bool, cond, nat_eq, nat_le}
use Rattle.std.specs.Prelude.{List, length, slice_index}
use Rattle.std.specs.{Int.bit_at, Ordering.nat_cmp}
use Rattle.std.specs.FinSet as set

-- the word of a number that counts words, where the first word is that of `first`
abbrev pub word_at : ℕ → List ℕ → ℕ → ℕ
word_at first words k = cond (nat_le first k) (slice_index words (k - first)) 0

-- whether the bit of a number is 1
abbrev pub has_bit : ℕ → List ℕ → ℕ → Bool
has_bit first words q = nat_eq (bit_at (word_at first words (q / 64)) (q % 64)) 1

-- the numbers below n that pass a test
unfoldable pub numbers_below : ℕ → (ℕ → Bool) → set.FinSet nat_cmp
numbers_below zero p = set.empty
numbers_below (suc n) p = cond (p n) (set.insert (numbers_below n p) n) (numbers_below n p)

-- the numbers whose bits are 1
unfoldable pub page_set : ℕ → List ℕ → set.FinSet nat_cmp
page_set first words = numbers_below (64 * (first + length words)) (has_bit first words)
