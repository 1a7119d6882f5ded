use Rattle.std.proofs.Common.{◌≡◌, ◌+◌, ◌<◌, ◌^◌, ℕ, Some, Ok, take, get_or, sym, ap, subst, false, ◌∙◌, arith}
use Rattle.std.proofs.Common.{to_z, of_z}
use Rattle.std.specs.Int.{w64, w128}
use Rattle.std.proofs.lemmas.Int.{to_z-of_z}
use Rattle.vipr_spec.specs.Number.{signed_integer}
use Rattle.vipr_spec.specs.{Digits.natural_of, Fraction.whole, Tokens.is_white}
use Rattle.vipr_spec.proofs.Laws.{plain_number}
use Rattle.vipr_frac.proofs.Fronts.{front_value, fraction_solid, fraction_value, onward, solid}
use Rattle.vipr_frac.proofs.number.front_unsigned.Goals as goal

pub returns-then-s-len-eq47-clause-solid : goal.returns-then-s-len-eq47-clause-solid
returns-then-s-len-eq47-clause-solid c =
    let len : ℕ = c.front_natural-top.result.1 in
    fraction_solid c.args.s.now len _ c.front_natural-top.ensures.digits (omega arith)
    (rw (onward (len + 1) c.args.s.now) at c.in-Some-front_fraction.ensures.digits)

pub returns-then-s-len-eq47-clause-value : goal.returns-then-s-len-eq47-clause-value
returns-then-s-len-eq47-clause-value c =
    let bs = c.args.s.now in
    let len : ℕ = c.front_natural-top.result.1 in
    let top : natural_of (take len bs) ≡ Some c.front_natural-top.result.0 =
    front_value len c.front_natural-top.result.0 bs (omega arith) c.front_natural-top.ensures.within
    c.front_natural-top.ensures.value in
    (rw (onward (len + 1) c.args.s.now) at c.in-Some-front_fraction.ensures.value)
    ∙ fraction_value bs c.args.is_negative len _ c.front_natural-top.result.0
    c.front_natural-top.ensures.digits (omega arith) (omega arith) top

pub returns-clause-solid : goal.returns-clause-solid
returns-clause-solid c = λ k h. solid (get_or c.args.s.now k 0) (c.front_natural-top.ensures.digits k h)

pub returns-clause-value : goal.returns-clause-value
returns-clause-value c =
    let bs = c.args.s.now in
    let len : ℕ = c.front_natural-top.result.1 in
    let n : ℕ = c.front_natural-top.result.0 in
    let small : n < 10 ^ 18 = c.front_natural-top.ensures.small in
    let top : natural_of (take len bs) ≡ Some n =
    front_value len n bs (omega arith) c.front_natural-top.ensures.within
    c.front_natural-top.ensures.value in
    let value : to_z w128 (of_z w128 c.from-2.result) ≡ signed_integer c.args.is_negative n =
    to_z-of_z w128 c.from-2.result (record { sfits = c.from-2.type_inv }) ∙ c.from-2.ensures
    ∙ to_z-of_z w64 c.short_signed.result (record { sfits = c.short_signed.type_inv }) ∙ c.short_signed.ensures in
    ap Ok (c.of_whole-2.ensures ∙ ap whole value)
    ∙ sym (plain_number c.args.is_negative (take len bs) n top (omega arith))

-- one digit
pub returns-in-Some-clause-solid : goal.returns-in-Some-clause-solid
returns-in-Some-clause-solid c = λ k h.
    let bs = c.args.s.now in
    let first : k ≡ 0 = omega arith in
    subst (λ j. is_white (get_or bs j 0) ≡ false) (sym first) (solid (get_or bs 0 0) c.in-Some.ensures.digit)

pub returns-in-Some-clause-value : goal.returns-in-Some-clause-value
returns-in-Some-clause-value c =
    let bs = c.args.s.now in
    let n : ℕ = c.in-Some.digit in
    let within = c.in-Some.ensures.within in
    let small = c.in-Some.ensures.small in
    let top : natural_of (take 1 bs) ≡ Some n = front_value 1 n bs (omega arith)
    (omega arith) c.in-Some.ensures.value in
    let value : to_z w128 (of_z w128 c.from-in-Some.result) ≡ signed_integer c.args.is_negative n =
    to_z-of_z w128 c.from-in-Some.result (record { sfits = c.from-in-Some.type_inv }) ∙ c.from-in-Some.ensures
    ∙ to_z-of_z w64 c.short_signed-whole.result (record { sfits = c.short_signed-whole.type_inv })
    ∙ c.short_signed-whole.ensures
    ∙ ap (signed_integer c.args.is_negative) c.from.ensures in
    ap Ok (c.of_whole.ensures ∙ ap whole value) ∙ sym (plain_number c.args.is_negative (take 1 bs) n top (omega arith))
