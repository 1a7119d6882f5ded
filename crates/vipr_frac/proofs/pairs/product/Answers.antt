use Rattle.std.proofs.Common.{◌≡◌, ◌≤◌, ◌∙◌, pos, ◌*ℤ◌, to_z, of_z}
use Rattle.std.specs.{Int.w64, Int.w128, Prelude.unsigned_abs}
use Rattle.std.proofs.lemmas.Int.{to_z-of_z, to_z_pos}
use Rattle.vipr_spec.specs.Fraction.{most}
use Rattle.vipr_frac.proofs.Small.{word_fits, word_products}
use Rattle.vipr_frac.proofs.{Unreduced.word_abs, Views.as-is, pairs.product.Goals.After-from-2}
use Rattle.vipr_frac.proofs.pairs.product.Goals as goal

module _ (c : After-from-2) where
  p_is : to_z w128 (of_z w128 c.from.result) ≡ c.args.p
  p_is = to_z-of_z w128 c.from.result (record { sfits = c.from.type_inv }) ∙ c.from.ensures
      ∙ to_z-of_z w64 c.args.p c.ranges.p

  n_is : to_z w128 (of_z w128 c.from-2.result) ≡ pos c.args.n
  n_is = to_z-of_z w128 c.from-2.result (record { sfits = c.from-2.type_inv }) ∙ c.from-2.ensures
      ∙ to_z_pos w64 c.args.n c.requires

  bound : unsigned_abs (c.args.p *ℤ pos c.args.n) ≤ most
  bound = (word_products c.args.p c.args.p c.args.n c.args.n (word_abs _ c.ranges.p)
      (word_abs _ c.ranges.p) c.requires c.requires).0

pub overflow_mul-result : goal.overflow_mul-result
overflow_mul-result c = rw (p_is c, n_is c) (word_fits _ (bound c))

pub returns : goal.returns
returns c =
    let k = (goal.at.returns c).After-from-2 in
    rw (p_is k, n_is k) (as-is _ (bound k))
