use Rattle.std.proofs.Common.{◌≡◌, ◌∙◌, ap, pos, ◌*ℤ◌, to_z, of_z, arith}
use Rattle.std.proofs.lemmas.Int.{to_z-of_z, ints}
use Rattle.std.specs.{Int.w64, Int.w128}
use Rattle.vipr_frac.proofs.pairs.are_ordered.Goals as goal

pub returns : goal.returns
returns c =
    let left : c.product.result ≡ c.args.p *ℤ pos c.args.s = c.product.ensures
    ∙ ap (λ z. z *ℤ pos c.args.s) (to_z-of_z w64 c.args.p c.ranges.p) in
    let right : c.product-2.result ≡ c.args.r *ℤ pos c.args.q = c.product-2.ensures
    ∙ ap (λ z. z *ℤ pos c.args.q) (to_z-of_z w64 c.args.r c.ranges.r) in
    let left_back : to_z w128 (of_z w128 c.product.result) ≡ c.product.result =
    to_z-of_z w128 c.product.result (record { sfits = c.product.type_inv }) in
    let right_back : to_z w128 (of_z w128 c.product-2.result) ≡ c.product-2.result =
    to_z-of_z w128 c.product-2.result (record { sfits = c.product-2.type_inv }) in
    grind (arith, ints, left, right, left_back, right_back)
