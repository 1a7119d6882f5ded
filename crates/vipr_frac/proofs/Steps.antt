-- Euclid's steps.
use Rattle.std.proofs.Common.{◌≡◌, ℕ, ◌%◌, ◌<◌, ◌≤◌, refl, sym, subst, ◌∙◌}
use Rattle.std.specs.Int.{IsGcd, ◌∣◌}
use Rattle.std.proofs.Math.Nat.{one-dvd, dvd_refl, pos_of_dvd_of_pos}
use Rattle.std.proofs.lemmas.Nat.Gcd.{IsGcd-from_zero, IsGcd-from_mod, IsGcd-swap, same_from_IsGcd}
use Rattle.std.proofs.lemmas.Nat.Gcd.{le_of_dvd}
use Rattle.vipr_spec.specs.{Gcd.gcd, GcdLaws.gcd_is}

pub gcd-same : (a b g : ℕ) → IsGcd a b g → gcd a b ≡ g
gcd-same a b g h = same_from_IsGcd a b (gcd a b) g (gcd_is a b) h

pub gcd-step : (a b : ℕ) → gcd a b ≡ gcd b (a % b)
gcd-step a b = gcd-same a b _ (IsGcd-from_mod a b _ (gcd_is b (a % b)))

pub gcd-end : (a b : ℕ) → b ≡ 0 → gcd a b ≡ a
gcd-end a b e = gcd-same a b a (IsGcd-from_zero a b e)

pub gcd-one : (a : ℕ) → gcd a 1 ≡ 1
gcd-one a = gcd-same a 1 1 (one-dvd a, dvd_refl 1, λ d p q. q)

pub one-gcd : (b : ℕ) → gcd 1 b ≡ 1
one-gcd b = gcd-same 1 b 1 (dvd_refl 1, one-dvd b, λ d p q. p)

pub gcd-some : (a b g : ℕ) → 0 < b → g ≡ gcd a b → 0 < g
gcd-some a b g some e = pos_of_dvd_of_pos (subst (λ n. n ∣ b) (sym e) (gcd_is a b).1) some

pub gcd-at_most : (a b g : ℕ) → 0 < b → g ≡ gcd a b → g ≤ b
gcd-at_most a b g some e = le_of_dvd some (subst (λ n. n ∣ b) (sym e) (gcd_is a b).1)

pub gcd-swap : (a b : ℕ) → gcd a b ≡ gcd b a
gcd-swap a b = gcd-same a b _ (IsGcd-swap b a _ (gcd_is b a))

-- a remainder in place of the number that it is taken of
pub gcd-rest : (a b : ℕ) → gcd (a % b) b ≡ gcd a b
gcd-rest a b = gcd-swap (a % b) b ∙ sym (gcd-step a b)

pub zero-gcd : (b : ℕ) → gcd 0 b ≡ b
zero-gcd b = gcd-swap 0 b ∙ gcd-end b 0 refl
