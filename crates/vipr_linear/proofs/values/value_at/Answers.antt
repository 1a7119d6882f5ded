use Rattle.vipr_spec.specs.Constraint.{at}
use Rattle.vipr_linear.proofs.Valuing.{row_value, row_fits, if_ok}
use Rattle.vipr_linear.proofs.values.value_at.Goals as goal

pub returns-clause-fits : goal.returns-clause-fits
returns-clause-fits c n names =
    let f = row_fits c.args.row.now (at c.args.solution.now.0) n c.sum_of_values.ensures.rising names in
    (λ o. f.0 (c.sum_of_values.ensures.fits.0 o), λ h. c.sum_of_values.ensures.fits.1 (f.1 h))

pub returns-clause-value : goal.returns-clause-value
returns-clause-value c n names = if_ok _ _ c.sum_of_values.result
    (row_value c.args.row.now (at c.args.solution.now.0) n c.sum_of_values.ensures.rising names)
    c.sum_of_values.ensures.value
