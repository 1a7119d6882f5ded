-- What is spelled as a number is bounded
use Rattle.std.proofs.Common.{◌≡◌, ℕ, ◌<◌, ◌≤◌, Bool, List, ℤ, nat_abs, arith, sym, subst}
use Rattle.vipr_spec.specs.Fraction.{ℚ, over, most, IsBounded}
use Rattle.vipr_spec.specs.Number.{signed_integer, denominator, SpellsNumber}

-- reduction keeps the bound
over_bounded : (p : ℤ) (q : ℕ) → 0 < q → nat_abs p ≤ most → q ≤ most → IsBounded (over p q)
unfolding over
over_bounded p q h a b = grind arith

signed_abs : (is_negative : Bool) (p : ℕ) → nat_abs (signed_integer is_negative p) ≡ p
signed_abs is_negative p = grind arith

pub number_bounded : (t : List ℕ) (x : ℚ) → SpellsNumber t x → IsBounded x
number_bounded t x s =
    subst IsBounded (sym s.value)
    (over_bounded _ (denominator s.bottom) (omega arith) (rw signed_abs s.top_fits) s.bottom_fits)
