-- Whole numbers of two digits
use Rattle.std.proofs.Common.{◌≡◌, ℕ, ◌+◌, ◌/◌, ◌%◌, ◌<◌, ◌≤◌, [], ◌∷◌}
use Rattle.std.proofs.Common.{arith}
use Rattle.std.proofs.{lemmas.Fmt.decimal_digit, lemmas.Fmt.decimal_step}
use Rattle.std.specs.Fmt.{decimal}

pub two_digits : (n : ℕ) → 10 ≤ n → n < 100
    → (48 + n / 10) ∷ (48 + n % 10) ∷ [] ≡ decimal n
two_digits n more few = grind (arith, decimal_step, decimal_digit)
