use Rattle.std.proofs.Common.{◌≡◌, ◌∙◌, refl, to_z, of_z}
use Rattle.std.specs.{Int.w128, Prelude.◌*ℤ◌}
use Rattle.std.proofs.lemmas.Bool.{false≢true}
use Rattle.vipr_frac.specs.Parts.{product_numer, product_denom, FitsProduct}
use Rattle.vipr_frac.proofs.Views.{as-is, words_times, refused}
use Rattle.vipr_frac.proofs.{Sums.product-is, Sums.IsReduced-product, Sums.ProductFits-parts}
use Rattle.vipr_frac.proofs.{Sums.FitsProduct-from, frac.product_by_parts.Goals.In_ok-below}
use Rattle.vipr_frac.proofs.frac.product_by_parts.Goals as goal

pub returns-in_err-above-clause-fits : goal.returns-in_err-above-clause-fits
returns-in_err-above-clause-fits c = (
  λ ok. refused _ c.from_residual.ensures.0 ok,
  λ f. absurd (false≢true
      (c.in_err-above.ensures.fits.1
      (rw (words_times _ _ _ c.crossed-p.ensures.left c.crossed-p.ensures.right
      c.crossed-p.ensures.above) (FitsProduct-from c.args.a c.args.b f).numer))),
)

pub returns-in_err-below-clause-fits : goal.returns-in_err-below-clause-fits
returns-in_err-below-clause-fits c = (
  λ ok. refused _ c.from_residual-in_err-below.ensures.0 ok,
  λ f. absurd (false≢true
      (c.in_err-below.ensures.fits.1
      (rw c.crossed-p.ensures.below (FitsProduct-from c.args.a c.args.b f).below))),
)

module _ (c : In_ok-below) where
  numer_is : to_z w128 (of_z w128 c.crossed-p.result.0) *ℤ to_z w128
      (of_z w128 c.crossed-p.result.1) ≡ product_numer c.args.a c.args.b
  numer_is = words_times _ _ _ c.crossed-p.ensures.left c.crossed-p.ensures.right c.crossed-p.ensures.above

  fits : FitsProduct c.args.a c.args.b
  fits = record {
    numer = rw numer_is at (c.in_ok-above.ensures.fits.0 refl);
    below = rw c.crossed-p.ensures.below at (c.in_ok-below.ensures.fits.0 refl);
  }

  p_is : to_z w128 (of_z w128 c.in_ok-above.above) ≡ product_numer c.args.a c.args.b
  p_is = rw (c.in_ok-above.ensures.value ∙ numer_is) (as-is _ fits.numer)

  q_is : c.in_ok-below.below ≡ product_denom c.args.a c.args.b
  q_is = c.in_ok-below.ensures.value ∙ c.crossed-p.ensures.below

pub of_parts-requires : goal.of_parts-requires
of_parts-requires c = rw (p_is c, q_is c) (IsReduced-product c.args.a c.args.b (fits c))

pub returns-clause-fits : goal.returns-clause-fits
returns-clause-fits c =
    let k = (goal.at.returns-clause-fits c).In_ok-below in
    (λ _. ProductFits-parts c.args.a c.args.b (fits k), λ _. refl)

pub returns-clause-value : goal.returns-clause-value
returns-clause-value c =
    let k = (goal.at.returns-clause-value c).In_ok-below in
    c.of_parts.ensures ∙ rw (p_is k, q_is k, product-is c.args.a c.args.b)
