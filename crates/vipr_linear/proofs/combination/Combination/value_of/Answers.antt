use Rattle.std.proofs.Common.{◌≡◌, ◌∙◌, ap, subst, sym}
use Rattle.vipr_spec.specs.Constraint.{at}
use Rattle.vipr_linear.specs.{Accumulator.Accumulator, Values.point_of, Values.IsLaidOut}
use Rattle.vipr_linear.proofs.Points.{laid_value, laid_fits}
use Rattle.vipr_linear.proofs.Valuing.{row_value, row_fits, if_ok}
use Rattle.vipr_linear.proofs.combination.Combination.value_of.Goals as goal

pub returns-clause-fits : goal.returns-clause-fits
returns-clause-fits c n x laid names =
    let same : c.sums.result.now ≡ c.args.self.now.sums = c.sums.ensures
    ∙ ap (λ (a : Accumulator). a.sums) c.self.view_is in
    let f = row_fits c.args.row.now (point_of c.sums.result.now) n c.value_in.ensures.rising names in
    let g = laid_fits n x c.sums.result.now (subst (IsLaidOut n x) (sym same) laid) (at c.args.row.now) in
    (λ o. g.0 (f.0 (c.value_in.ensures.fits.0 o)), λ h. c.value_in.ensures.fits.1 (f.1 (g.1 h)))

pub returns-clause-value : goal.returns-clause-value
returns-clause-value c n x laid names =
    let same : c.sums.result.now ≡ c.args.self.now.sums = c.sums.ensures
    ∙ ap (λ (a : Accumulator). a.sums) c.self.view_is in
    let g = laid_value n x c.sums.result.now (subst (IsLaidOut n x) (sym same) laid) (at c.args.row.now) in
    if_ok _ _ c.value_in.result
    (row_value c.args.row.now (point_of c.sums.result.now) n c.value_in.ensures.rising names
    ∙ g) c.value_in.ensures.value
