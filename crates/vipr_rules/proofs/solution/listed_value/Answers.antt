use Rattle.std.proofs.Common.{◌∙◌, refl}
use Rattle.vipr_rules.proofs.ColumnLemmas.{row_start, row_next, row_refused, row_end, refused_or_ok}
use Rattle.vipr_rules.proofs.solution.listed_value.Goals as goal

pub loop-variable-init : goal.loop-variable-init
loop-variable-init c =
    row_start c.args.row.now c.args.solution.now.0 c.entries-variable-items.result.now
    c.entries-variable-items.ensures.list c.entries-variable-items.ensures.rising
    c.zero-value.result c.zero-value.ensures

pub returns-in_err-add_product-clause-fits : goal.returns-in_err-add_product-clause-fits
returns-in_err-add_product-clause-fits c = λ n names. (
  λ o. absurd (refused_or_ok _ c.from_residual.ensures.0 o),
  λ fits. absurd (
      let t = row_refused c.args.row.now c.args.solution.now.0 c.entries-variable-items.result.now
      c.entries-variable-items.ensures.list c.entries-variable-items.ensures.rising
      c.loop-variable.variable-index c.loop-variable-item.result c.loop-variable-test.true
      c.loop-variable-item.is c.loop-variable.value c.coefficient.result c.coefficient.ensures
      c.loop-variable.invariant n names fits in
      let ok = c.in_err-add_product.ensures.fits.1 t in
      cc
      ),
)

pub loop-variable-preserved : goal.loop-variable-preserved
loop-variable-preserved c =
    row_next c.args.row.now c.args.solution.now.0 c.entries-variable-items.result.now
    c.entries-variable-items.ensures.list c.entries-variable-items.ensures.rising
    c.loop-variable.variable-index c.loop-variable-item.result c.loop-variable-test.true
    c.loop-variable-item.is c.loop-variable.value c.coefficient.result c.coefficient.ensures
    c.loop-variable.invariant c.add_product.new.self (c.in_ok-add_product.ensures.fits.0 refl)
    c.in_ok-add_product.ensures.sum

pub returns-clause-fits : goal.returns-clause-fits
returns-clause-fits c = λ n names. (
  λ o. (row_end c.args.row.now c.args.solution.now.0 c.entries-variable-items.result.now
      c.entries-variable-items.ensures.list c.entries-variable-items.ensures.rising
      c.loop-variable.variable-index c.loop-variable.value n c.loop-variable-test.false names
      c.loop-variable.invariant).0,
  λ fits. refl,
)

pub returns-clause-value : goal.returns-clause-value
returns-clause-value c = λ n names.
    c.value.ensures
    ∙ (row_end c.args.row.now c.args.solution.now.0 c.entries-variable-items.result.now
    c.entries-variable-items.ensures.list c.entries-variable-items.ensures.rising
    c.loop-variable.variable-index c.loop-variable.value n c.loop-variable-test.false names
    c.loop-variable.invariant).1
