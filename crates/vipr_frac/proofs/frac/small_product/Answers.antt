use Rattle.std.proofs.Common.{◌≡◌, ◌∙◌, ap, to_z, of_z}
use Rattle.std.specs.{Int.w128, Prelude.◌*ℤ◌}
use Rattle.vipr_frac.specs.Parts.{product_numer}
use Rattle.vipr_frac.proofs.Sums.{product-is, IsReduced-product, ProductFits-parts}
use Rattle.vipr_frac.proofs.{Small.word_fits, Small.small_product_fits, Small.product_numer_small}
use Rattle.vipr_frac.proofs.{Views.as-is, Views.words_times}
use Rattle.vipr_frac.proofs.{frac.small_product.Goals.After-crossed-p}
use Rattle.vipr_frac.proofs.frac.small_product.Goals as goal

module _ (c : After-crossed-p) where
  numer_is : to_z w128 (of_z w128 c.crossed-p.result.0) *ℤ to_z w128
      (of_z w128 c.crossed-p.result.1) ≡ product_numer c.args.a c.args.b
  numer_is = words_times _ _ _ c.crossed-p.ensures.left c.crossed-p.ensures.right c.crossed-p.ensures.above

  p_is : to_z w128
      (of_z w128 (to_z w128 (of_z w128 c.crossed-p.result.0) *ℤ to_z w128
      (of_z w128 c.crossed-p.result.1))) ≡ product_numer c.args.a c.args.b
  p_is = ap (λ z. to_z w128 (of_z w128 z)) numer_is
      ∙ as-is _ (product_numer_small c.args.a c.args.b c.requires.left c.requires.right)

pub overflow_mul-p : goal.overflow_mul-p
overflow_mul-p c =
    rw (numer_is (goal.at.overflow_mul-p c).After-crossed-p)
    (word_fits _ (product_numer_small c.args.a c.args.b c.requires.left c.requires.right))

pub of_parts-requires : goal.of_parts-requires
of_parts-requires c =
    rw (p_is (goal.at.of_parts-requires c).After-crossed-p, c.crossed-p.ensures.below)
    (IsReduced-product c.args.a c.args.b
    (small_product_fits c.args.a c.args.b c.requires.left c.requires.right))

pub returns-clause-fits : goal.returns-clause-fits
returns-clause-fits c = ProductFits-parts c.args.a c.args.b
    (small_product_fits c.args.a c.args.b c.requires.left c.requires.right)

pub returns-clause-value : goal.returns-clause-value
returns-clause-value c =
    c.of_parts.ensures
    ∙ rw (
      p_is (goal.at.returns-clause-value c).After-crossed-p,
      c.crossed-p.ensures.below,
      product-is c.args.a c.args.b,
    )
