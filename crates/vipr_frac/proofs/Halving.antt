-- The greatest common divisor by taking out factors 2.
use mir.Val.{bits}
use Rattle.std.proofs.Common.{◌≡◌, ℕ, zero, suc, ◌+◌, ◌*◌, ◌/◌, ◌%◌, ◌^◌, ◌-◌, ◌<◌, ◌≤◌, sym, ap}
use Rattle.std.proofs.Common.{ap₂, subst, ◌∙◌, arith, min}
use Rattle.std.proofs.Math.Nat.{mul_comm, mul_assoc, add-mul, mul-one, pow-suc, dvd-mul_right}
use Rattle.std.proofs.Math.Nat.{dvd-sub, div-add-mod'}
use Rattle.std.proofs.lemmas.Nat.Bits.{bit_at_lowest, bit_at-suc, bit_at-trailing_zeros}
use Rattle.std.proofs.{lemmas.Nat.shr-shr, lemmas.Nat.Gcd.IsGcd-from_sub, lemmas.Nat.Gcd.dvd_trans}
use Rattle.std.specs.Int.{◌∣◌, bit_at, abs_diff, trailing_zeros, Width}
use Rattle.vipr_spec.specs.{Gcd.gcd, GcdLaws.gcd_is, GcdLaws.gcd-scaled}
use Rattle.vipr_frac.proofs.Steps.{gcd-same, gcd-swap}

-- ---- an odd number has no factor 2
odd_times : (m y : ℕ) → (m * 2 + 1) * y - m * 2 * y ≡ y
odd_times m y = let e : (m * 2 + 1) * y ≡ m * 2 * y + 1 * y = add-mul (m * 2) 1 y in omega (arith, e)

half_dvd : (x y d : ℕ) → x % 2 ≡ 1 → d ∣ x → d ∣ (y * 2) → d ∣ y
half_dvd x y d odd h k =
    let m = x / 2 in
    let split : x ≡ m * 2 + 1 = sym (div-add-mod' x 2) ∙ ap (λ r. m * 2 + r) odd in
    let whole : d ∣ (x * y) = dvd_trans d h (dvd-mul_right x y) in
    let turned : y * 2 * m ≡ m * 2 * y = mul_comm (y * 2) m ∙ ap (λ n. m * n) (mul_comm y 2) ∙ sym (mul_assoc m 2 y) in
    let part : d ∣ (m * 2 * y) = subst (λ n. d ∣ n) turned (dvd_trans d k (dvd-mul_right (y * 2) m)) in
    subst (λ n. d ∣ n) (ap (λ n. n * y - m * 2 * y) split ∙ odd_times m y) (dvd-sub d whole part)

odd_half : (x y : ℕ) → x % 2 ≡ 1 → gcd x (y * 2) ≡ gcd x y
odd_half x y odd =
    let is = gcd_is x y in
    gcd-same x (y * 2) (gcd x y) (
      is.0,
      dvd_trans (gcd x y) is.1 (dvd-mul_right y 2),
      λ d h k. is.2 d h (half_dvd x y d odd h k),
    )

twice : (y k : ℕ) → y * 2 ^ suc k ≡ y * 2 ^ k * 2
twice y k = ap (λ n. y * n) (pow-suc 2 k) ∙ sym (mul_assoc y (2 ^ k) 2)

once : (y : ℕ) → y * 2 ^ 0 ≡ y
once y = mul-one y

pub odd_shift : (k x y : ℕ) → x % 2 ≡ 1 → gcd x (y * 2 ^ k) ≡ gcd x y
odd_shift zero x y odd = ap (gcd x) (once y)
odd_shift (suc k) x y odd = ap (gcd x) (twice y k) ∙ odd_half x (y * 2 ^ k) odd ∙ odd_shift k x y odd

-- two odd numbers, each times a power of 2
pub both_odd : (i j x y : ℕ) → x % 2 ≡ 1 → y % 2 ≡ 1
    → gcd (x * 2 ^ i) (y * 2 ^ j) ≡ gcd x y * 2 ^ min i j
both_odd zero j x y odd other =
    let least : min 0 j ≡ 0 = omega arith in
    ap (λ n. gcd n (y * 2 ^ j)) (once x) ∙ odd_shift j x y odd ∙ sym (once (gcd x y))
    ∙ ap (λ n. gcd x y * 2 ^ n) (sym least)
both_odd (suc i) zero x y odd other = grind (arith, gcd-swap, odd_shift)
both_odd (suc i) (suc j) x y odd other =
    let least : min (suc i) (suc j) ≡ suc (min i j) = omega arith in
    ap₂ gcd (twice x i) (twice y j) ∙ gcd-scaled (x * 2 ^ i) (y * 2 ^ j) 1
    ∙ ap (λ n. n * 2) (both_odd i j x y odd other)
    ∙ sym (twice (gcd x y) (min i j)) ∙ ap (λ n. gcd x y * 2 ^ n) (sym least)

-- ---- a number is its part above its lowest zeros
pub above_zeros : (k n : ℕ) → ((i : ℕ) → i < k → bit_at n i ≡ 0) → n ≡ n / 2 ^ k * 2 ^ k
above_zeros zero n h = omega arith
above_zeros (suc k) n h =
    let even : n % 2 ≡ 0 = sym (bit_at_lowest n) ∙ h 0 (omega arith) in
    let halves : n ≡ n / 2 * 2 = omega (arith, even) in
    let rest = above_zeros k (n / 2) (λ i l. sym (bit_at-suc n i) ∙ h (suc i) (omega arith)) in
    let further : n / 2 / 2 ^ k ≡ n / 2 ^ suc k = let e : 1 + k ≡ suc k = omega arith in
    shr-shr n 1 k ∙ ap (λ m. n / 2 ^ m) e in
    halves ∙ ap (λ m. m * 2) (rest ∙ ap (λ m. m * 2 ^ k) further) ∙ sym (twice (n / 2 ^ suc k) k)

-- ---- a difference in place of the greater
pub gcd_difference : (x y : ℕ) → y ≤ x → gcd (x - y) y ≡ gcd x y
gcd_difference x y h = sym (gcd-same x y _ (IsGcd-from_sub x y _ h (gcd_is (x - y) y)))

-- the smaller of two odd numbers is odd, and with their difference it has the same common divisors
pub odd_step : (x o : ℕ) → x % 2 ≡ 1 → o % 2 ≡ 1
    → (min x o % 2 ≡ 1) × (gcd (min x o) (abs_diff x o) ≡ gcd x o)
odd_step x o odd other = grind (arith, gcd-swap x (o - x), gcd_difference, gcd-swap o x, gcd-swap o (x - o))

-- ---- the factors 2 of a number of this width
module _ (w : Width) where
  abbrev pub odd_part : ℕ → ℕ
  odd_part n = n / 2 ^ trailing_zeros w n

  pub odd_is : (n : ℕ) → 0 < n → n < 2 ^ bits w → odd_part n % 2 ≡ 1
  odd_is n some small = (bit_at-trailing_zeros w n some small).1

  pub twos_out : (n : ℕ) → 0 < n → n < 2 ^ bits w → n ≡ odd_part n * 2 ^ trailing_zeros w n
  twos_out n some small = above_zeros (trailing_zeros w n) n (bit_at-trailing_zeros w n some small).2

  -- only the odd part has divisors in common with an odd number
  pub odd_alone : (x n : ℕ) → 0 < n → n < 2 ^ bits w → x % 2 ≡ 1 → gcd x n ≡ gcd x (odd_part n)
  odd_alone x n some small odd = ap (gcd x) (twos_out n some small) ∙ odd_shift (trailing_zeros w n) x (odd_part n) odd

  -- a step of the division by halving
  pub halved : (x n : ℕ) → 0 < n → n < 2 ^ bits w → x % 2 ≡ 1
      → (min x (odd_part n) % 2 ≡ 1) × (gcd (min x (odd_part n)) (abs_diff x (odd_part n)) ≡ gcd x n)
  halved x n some small odd = grind (arith, odd_step, odd_is, odd_alone)

  pub twos_back : (a b : ℕ) → 0 < a → a < 2 ^ bits w → 0 < b → b < 2 ^ bits w
      → gcd (odd_part b) a * 2 ^ min (trailing_zeros w b) (trailing_zeros w a) ≡ gcd a b
  twos_back a b some small other below =
      let least : ℕ = min (trailing_zeros w b) (trailing_zeros w a) in
      ap (λ g. g * 2 ^ least) (odd_alone (odd_part b) a some small (odd_is b other below))
      ∙ sym (both_odd (trailing_zeros w b) (trailing_zeros w a) (odd_part b) (odd_part a)
      (odd_is b other below) (odd_is a some small))
      ∙ ap₂ gcd (sym (twos_out b other below)) (sym (twos_out a some small)) ∙ gcd-swap b a
