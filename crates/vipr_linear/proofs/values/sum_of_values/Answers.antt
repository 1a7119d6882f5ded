use Rattle.std.proofs.Common.{◌∙◌, sym, refl, subst, ap}
use Rattle.vipr_spec.specs.{Constraint.at, Fraction.zero_ℚ}
use Rattle.vipr_linear.specs.Values.{with_values, ValuesFit}
use Rattle.vipr_linear.proofs.{Marks.not_both, Valuing.product_refused, Valuing.sum_refused}
use Rattle.vipr_linear.proofs.{Valuing.fits_on, Valuing.value_on, Valuing.all_fit, Valuing.no_more}
use Rattle.vipr_linear.proofs.values.sum_of_values.Goals as goal

pub returns-in_err-product-clause-fits : goal.returns-in_err-product-clause-fits
returns-in_err-product-clause-fits c = (
  λ o. absurd (not_both _ c.from_residual.ensures.0 o),
  λ h. absurd (product_refused _ c.loop-variable.value (at c.args.solution.now.0) _
      c.loop-variable.variable-index c.loop-variable-item.result c.loop-variable-test.true
      c.loop-variable-item.is c.loop-variable.invariant.fits c.coefficient.result zero_ℚ
      c.coefficient.ensures c.in_err-product.ensures.fits.1
      (rw c.entries-variable-items.ensures.list h)),
)

pub returns-in_err-value-clause-fits : goal.returns-in_err-value-clause-fits
returns-in_err-value-clause-fits c = (
  λ o. absurd (not_both _ c.from_residual-in_err-value.ensures.0 o),
  λ h. absurd (sum_refused _ c.loop-variable.value (at c.args.solution.now.0) _
      c.loop-variable.variable-index c.loop-variable-item.result c.loop-variable-test.true
      c.loop-variable-item.is c.loop-variable.invariant.fits c.coefficient.result
      c.in_ok-product.product c.coefficient.ensures c.in_ok-product.ensures.value
      c.in_err-value.ensures.fits.1 (rw c.entries-variable-items.ensures.list h)),
)

pub loop-variable-preserved : goal.loop-variable-preserved
loop-variable-preserved c = record {
  fits = fits_on _ c.loop-variable.value (at c.args.solution.now.0) _ c.loop-variable.variable-index
      c.loop-variable-item.result c.loop-variable-test.true c.loop-variable-item.is
      c.loop-variable.invariant.fits c.coefficient.result c.in_ok-product.product
      c.coefficient.ensures c.in_ok-product.ensures.value _ c.in_ok-value.ensures.value
      (c.in_ok-product.ensures.fits.0 refl) (c.in_ok-value.ensures.fits.0 refl);
  sum = value_on _ c.loop-variable.value (at c.args.solution.now.0) _ c.loop-variable.variable-index
      c.loop-variable-item.result c.loop-variable-test.true c.loop-variable-item.is
      c.loop-variable.invariant.fits c.coefficient.result c.in_ok-product.product
      c.coefficient.ensures c.in_ok-product.ensures.value _ c.in_ok-value.ensures.value
      ∙ c.loop-variable.invariant.sum;
}

pub returns-clause-fits : goal.returns-clause-fits
returns-clause-fits c = (
  λ o. subst (λ es. ValuesFit zero_ℚ es (at c.args.solution.now.0))
      c.entries-variable-items.ensures.list
      (c.loop-variable.invariant.fits.1
      (all_fit _ _ _ c.loop-variable.variable-index c.loop-variable-test.false)),
  λ h. refl,
)

pub returns-clause-value : goal.returns-clause-value
returns-clause-value c =
    sym (no_more _ (at c.args.solution.now.0) _ c.loop-variable.variable-index
    c.loop-variable-test.false) ∙ c.loop-variable.invariant.sum
    ∙ ap (λ es. with_values zero_ℚ es (at c.args.solution.now.0)) c.entries-variable-items.ensures.list
