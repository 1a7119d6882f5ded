use Rattle.std.proofs.Common.{◌≡◌, ℕ, ◌≤◌, Bool, Some, Ok, take, sym, ap, ◌∙◌, arith, to_z, of_z}
use Rattle.std.proofs.{lemmas.Bool.Decides.nat_tests, lemmas.Int.to_z-of_z}
use Rattle.std.specs.Int.{w64}
use Rattle.vipr_spec.specs.Number.{of_parts, signed_integer, written_fraction}
use Rattle.vipr_spec.specs.{Digits.natural_of, Fraction.most, Fraction.over}
use Rattle.vipr_frac.proofs.Fronts.{front_value}
use Rattle.vipr_frac.proofs.number.front_fraction.Goals as goal

at_value : (m : Bool) (p q : ℕ) → p ≤ most → q ≤ most → (q ≡ 0 → ⊥)
    → written_fraction m p q ≡ Ok (over (signed_integer m p) q)
at_value m p q h k some = grind (arith, nat_tests)

pub returns-clause-value : goal.returns-clause-value
returns-clause-value c =
    let bs = c.args.s.now in
    let len : ℕ = c.front_natural-bottom.result.1 in
    let q : ℕ = c.front_natural-bottom.result.0 in
    let bottom : natural_of (take len bs) ≡ Some q =
    front_value len q bs (omega arith) c.front_natural-bottom.ensures.within c.front_natural-bottom.ensures.value in
    let small : c.args.top ≤ most = omega arith in
    let denom : q ≤ most = omega arith in
    let sign : to_z w64 (of_z w64 c.short_signed.result) ≡ signed_integer c.args.is_negative c.args.top =
    to_z-of_z w64 c.short_signed.result (record { sfits = c.short_signed.type_inv }) ∙ c.short_signed.ensures in
    ap Ok (c.reduced_words-value.ensures ∙ ap (λ z. over z q) sign)
    ∙ sym (at_value c.args.is_negative c.args.top q small denom c.if-bottom-eq0.false)
    ∙ ap (of_parts c.args.is_negative (Some c.args.top)) (sym bottom)
