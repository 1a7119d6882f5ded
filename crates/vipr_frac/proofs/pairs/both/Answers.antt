use Rattle.std.proofs.Common.{◌≡◌, ◌≤◌, ◌∙◌, ap, pos, ◌+ℤ◌, ◌*ℤ◌, to_z, of_z}
use Rattle.std.specs.{Int.w64, Int.w128, Prelude.unsigned_abs}
use Rattle.std.proofs.lemmas.Int.{to_z-of_z}
use Rattle.vipr_spec.specs.Fraction.{most}
use Rattle.vipr_frac.proofs.Small.{word_fits, word_products}
use Rattle.vipr_frac.proofs.{Unreduced.word_abs, Views.as-is, pairs.both.Goals.After-product-2}
use Rattle.vipr_frac.proofs.pairs.both.Goals as goal

module _ (c : After-product-2) where
  left : to_z w128 (of_z w128 c.product.result) ≡ c.args.p *ℤ pos c.args.u
  left = to_z-of_z w128 c.product.result (record { sfits = c.product.type_inv }) ∙ c.product.ensures
      ∙ ap (λ z. z *ℤ pos c.args.u) (to_z-of_z w64 c.args.p c.ranges.p)

  right : to_z w128 (of_z w128 c.product-2.result) ≡ c.args.r *ℤ pos c.args.v
  right = to_z-of_z w128 c.product-2.result (record { sfits = c.product-2.type_inv })
      ∙ c.product-2.ensures ∙ ap (λ z. z *ℤ pos c.args.v) (to_z-of_z w64 c.args.r c.ranges.r)

  bound : unsigned_abs (c.args.p *ℤ pos c.args.u +ℤ c.args.r *ℤ pos c.args.v) ≤ most
  bound = (word_products c.args.p c.args.r c.args.u c.args.v (word_abs _ c.ranges.p)
      (word_abs _ c.ranges.r) c.requires.left c.requires.right).2

pub overflow_add-sum : goal.overflow_add-sum
overflow_add-sum c = rw (left c, right c) (word_fits _ (bound c))

pub returns-then-is_word : goal.returns-then-is_word
returns-then-is_word c =
    let k = (goal.at.returns-then-is_word c).After-product-2 in
    let both : to_z w128 (of_z w128 (c.args.p *ℤ pos c.args.u +ℤ c.args.r *ℤ pos c.args.v)) ≡
    c.args.p *ℤ pos c.args.u +ℤ c.args.r *ℤ pos c.args.v = as-is _ (bound k) in
    let word = rw (left k, right k, both) at (c.is_word.ensures.0 c.if-is_word.true) in
    rw (left k, right k, both) (to_z-of_z w64 (c.args.p *ℤ pos c.args.u +ℤ c.args.r *ℤ pos c.args.v) word)
