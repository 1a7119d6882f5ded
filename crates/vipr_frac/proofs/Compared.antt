-- What the order of two integers becomes by a positive factor.
use Rattle.std.proofs.Common.{◌≡◌, ℕ, ◌+◌, ◌*◌, ◌<◌, ℤ, pos, arith}
use Rattle.std.proofs.{Math.Nat.mul-lt-mul_of_pos_right, lemmas.Int.ints}
use Rattle.std.specs.{Ordering.int_cmp, Prelude.◌*ℤ◌, Prelude.◌<ℤ◌}
use borrow.Author.Differences.{up, down}

lt-scale : (a b : ℤ) (n : ℕ) → 0 < n → a <ℤ b → (a *ℤ pos n) <ℤ (b *ℤ pos n)
lt-scale a b n some h =
    let k : up a + down b < up b + down a = omega (arith, ints) in
    let m : (up a + down b) * n < (up b + down a) * n = mul-lt-mul_of_pos_right k some in
    omega (arith, ints, m)

pub int_cmp-scale : (a b : ℤ) (n : ℕ) → 0 < n → int_cmp (a *ℤ pos n) (b *ℤ pos n) ≡ int_cmp a b
int_cmp-scale a b n some = grind (arith, lt-scale)
