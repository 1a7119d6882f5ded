use Rattle.std.proofs.Common.{◌≡◌, ◌<◌, ◌^◌, sym, ◌∙◌, ap, arith, to_z, of_z, Ok}
use Rattle.std.specs.Int.{w128}
use Rattle.std.proofs.lemmas.Int.{to_z-of_z}
use Rattle.vipr_spec.specs.{Fraction.whole, Number.signed_integer}
use Rattle.vipr_spec.proofs.Laws.{plain_number}
use Rattle.vipr_frac.proofs.number.short_whole.Goals as goal

pub returns-in-Some : goal.returns-in-Some
returns-in-Some c =
    let small : c.in-Some.n < 10 ^ 18 = c.in-Some.ensures.small in
    let value : to_z w128 (of_z w128 c.with_sign.result) ≡ signed_integer c.args.is_negative c.in-Some.n =
    to_z-of_z w128 c.with_sign.result (record { sfits = c.with_sign.type_inv })
    ∙ c.with_sign.ensures ∙ ap (signed_integer c.args.is_negative) c.from.ensures in
    ap Ok (c.of_whole.ensures ∙ ap whole value)
    ∙ sym (plain_number c.args.is_negative c.args.text.now c.in-Some.n
    (sym c.in-Some.ensures.value) (omega arith))
