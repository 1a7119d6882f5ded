-- What the fields of a `Frac`, or of a `ShortFrac`, have to do with the fraction that they mean,
-- and what a `Frac` is hashed by.
use Rattle.std.proofs.Common.{◌≡◌, ℕ, ap, ◌∙◌, true}
use Rattle.std.specs.Prelude.{◌++◌}
use Rattle.std.specs.Hash as fed
use Rattle.vipr_spec.specs.{Fraction.ℚ, Fraction.over, FractionOrder.eq_ℚ}
use Rattle.vipr_spec.proofs.Laws.{parts_of, eq_is}
use Rattle.vipr_frac.specs.{Parts.IsReduced, declared.frac.Frac.TheInside.Inside}
use Rattle.vipr_frac.specs.declared.short.ShortFrac.TheInside.{Inside as Short}

pub inverse_is : (a : Inside) → IsReduced a.p a.q
    → record { p = (over a.p a.q).numer; q = (over a.p a.q).denom } ≡ a
inverse_is a h =
    let e = parts_of a.p a.q h.lowest in
    ap (λ (n : ℕ). record { p = (over a.p a.q).numer; q = n }) e.1
    ∙ ap (λ p. record { p = p; q = a.q }) e.0

pub short_is : (a : Short) → IsReduced a.p a.q
    → record { p = (over a.p a.q).numer; q = (over a.p a.q).denom } ≡ a
short_is a h =
    let e = parts_of a.p a.q h.lowest in
    ap (λ (n : ℕ). record { p = (over a.p a.q).numer; q = n }) e.1
    ∙ ap (λ p. record { p = p; q = a.q }) e.0

-- the numerator and the denominator in lowest terms
abbrev pub hash_input_of : ℚ → fed.HashWrites
hash_input_of x = fed.i128 x.numer ++ fed.u128 x.denom

pub hash_input_respects : (x y : ℚ) → eq_ℚ x y ≡ true → hash_input_of x ≡ hash_input_of y
hash_input_respects x y e = ap hash_input_of ((eq_is x y).0 e)
