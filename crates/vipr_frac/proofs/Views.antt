-- What the fields of a `Frac` say of the fraction that contracts see, and signed words that are
-- passed on.
use Rattle.std.proofs.Common.{◌≡◌, ℕ, ℤ, pos, ◌/◌, ◌<◌, ◌≤◌, refl, ap, ◌∙◌, arith}
use Rattle.std.proofs.Common.{to_z, of_z, int_div, FitsSigned}
use Rattle.std.proofs.lemmas.Int.{to_z-of_z, fits_signed_from_abs}
use Rattle.std.specs.Prelude.{unsigned_abs, ◌*ℤ◌, ◌-ℤ◌, neg_ℤ, Result, IsOk}
use Rattle.std.specs.{Int.w128, Result.IsErr}
use Rattle.vipr_spec.specs.Fraction.{ℚ, over, neg_ℚ, most, IsBounded}
use Rattle.vipr_spec.specs.{Gcd.gcd}
use Rattle.vipr_spec.proofs.Laws.{parts_of, is_one, is_neg, is_over}
use Rattle.vipr_frac.specs.Parts.{IsReduced}
use Rattle.vipr_frac.proofs.Steps.{gcd-one}

-- a signed word that is passed or returned
pub as-is : (z : ℤ) → unsigned_abs z ≤ most → to_z w128 (of_z w128 z) ≡ z
as-is z h = to_z-of_z w128 z (fits_signed_from_abs w128 z (omega arith))

pub words_times : (p r z : ℤ) → FitsSigned w128 p → FitsSigned w128 r → p *ℤ r ≡ z
    → to_z w128 (of_z w128 p) *ℤ to_z w128 (of_z w128 r) ≡ z
words_times p r z left right e = rw (to_z-of_z w128 p left, to_z-of_z w128 r right) e

pub record Facts (x : ℚ) (p : ℤ) (q : ℕ) : Type 0 where
  pub numer : p ≡ x.numer
  pub back : to_z w128 (of_z w128 p) ≡ x.numer
  pub denom : q ≡ x.denom
  pub some : 0 < x.denom
  pub bounded : IsBounded x

pub facts : (x : ℚ) (p : ℤ) (q : ℕ) → over p q ≡ x → IsReduced p q → Facts x p q
facts x p q e h = grind (arith, parts_of)

-- ---- p / q in lowest terms
pub over-parts : (p : ℤ) (q : ℕ) → 0 < q
    → ((over p q).numer ≡ int_div p (pos (gcd (unsigned_abs p) q)))
    × ((over p q).denom ≡ q / gcd (unsigned_abs p) q)
unfolding over
over-parts p q h = grind arith

-- a fraction is made of its parts
pub over-self : (x : ℚ) → over x.numer x.denom ≡ x
over-self x = is_one _ _ _ _ (is_over x.numer x.denom x.lowest.positive)
    (record { some = x.lowest.positive; cross = refl })

-- the same of the parts that a call gives
pub facts_of : (x : ℚ) (p : ℤ) (q : ℕ) → p ≡ x.numer → q ≡ x.denom → IsReduced p q → Facts x p q
facts_of x p q e f h = facts x p q (rw (e, f) (over-self x)) h

-- the fraction of parts that are passed on
pub passed-on : (x : ℚ) (p : ℤ) (q : ℕ) → p ≡ x.numer → q ≡ x.denom → IsReduced p q
    → over (to_z w128 (of_z w128 p)) q ≡ x
passed-on x p q e f h = rw (as-is p h.numer_bounded, e, f) (over-self x)

-- a fraction that is made of parts
pub made-of : (x : ℚ) (p : ℤ) (q : ℕ) → x ≡ over (to_z w128 (of_z w128 p)) q → IsReduced p q
    → x ≡ over p q
made-of x p q e h = e ∙ ap (λ z. over z q) (as-is p h.numer_bounded)

-- a whole number, by its parts
pub record WholeFacts (x : ℚ) (p : ℤ) : Type 0 where
  pub back : to_z w128 (of_z w128 p) ≡ x.numer
  pub whole : x.denom ≡ 1
  pub bounded : IsBounded x

pub whole_facts : (x : ℚ) (p : ℤ) (q : ℕ) → p ≡ x.numer → q ≡ x.denom → IsReduced p q → q ≡ 1
    → WholeFacts x p
whole_facts x p q e f h one = grind arith

-- reduction keeps the bound
pub IsReduced-over : (p : ℤ) (q : ℕ) → 0 < q → unsigned_abs p ≤ most → q ≤ most
    → IsReduced (over p q).numer (over p q).denom
IsReduced-over p q some h k = grind (arith, over-parts)

pub IsReduced-whole : (p : ℤ) → unsigned_abs p ≤ most → IsReduced p 1
IsReduced-whole p h = grind (arith, gcd-one)

pub negated-word : (p : ℤ) → unsigned_abs p ≤ most
    → to_z w128 (of_z w128 (pos 0 -ℤ to_z w128 (of_z w128 p))) ≡ neg_ℤ p
negated-word p h = grind arith

pub over-negated : (p : ℤ) (q : ℕ) → 0 < q → over (neg_ℤ p) q ≡ neg_ℚ (over p q)
over-negated p q some = is_one _ _ _ _ (is_over (neg_ℤ p) q some) (is_neg _ _ _ (is_over p q some))

-- a refusal is no success
pub refused : {A E X : Type 0} (r : Result A E) → IsErr r → IsOk r → X
refused r p q = grind arith
