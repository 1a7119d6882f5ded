use Rattle.std.proofs.{Common.◌∙◌, Common.refl, lemmas.Bool.false≢true}
use Rattle.vipr_linear.proofs.Adding.{below, row_terms, row_terms_fit}
use Rattle.vipr_linear.proofs.{Collecting.on_ok, Marks.not_both}
use Rattle.vipr_linear.proofs.combination.add_constraint.Goals as goal

pub add_terms-requires : goal.add_terms-requires
add_terms-requires c =
    let list = c.entries.ensures.list in
    rw list (below c.args.constraint.now.row _ (rw list at c.entries.ensures.rising) c.requires)

pub returns-in_err-add_terms-clause-fits : goal.returns-in_err-add_terms-clause-fits
returns-in_err-add_terms-clause-fits c =
    let list = c.entries.ensures.list in
    let fit = row_terms_fit c.args.constraint.now.row c.args.places.now c.args.multiplier
    (rw list at c.entries.ensures.rising) in
    let known = rw list at c.in_err-add_terms.ensures.fits in
    (λ o. absurd (not_both _ c.from_residual.ensures.0 o), λ h. absurd (false≢true (known.1 (fit.1 h.0))))

pub returns-clause-fits : goal.returns-clause-fits
returns-clause-fits c =
    let list = c.entries.ensures.list in
    let fit = row_terms_fit c.args.constraint.now.row c.args.places.now c.args.multiplier
    (rw list at c.entries.ensures.rising) in
    let known = rw list at c.in_ok-add_terms.ensures.fits in
    let sum = c.add_product_or_zero.ensures.fits in
    (λ o. (fit.0 (known.0 refl), sum.0 o), λ h. sum.1 h.1)

pub returns-clause-sums : goal.returns-clause-sums
returns-clause-sums c =
    let list = c.entries.ensures.list in
    let rising = rw list at c.entries.ensures.rising in
    let known = rw list at c.in_ok-add_terms.ensures.sums in
    on_ok c.add_product_or_zero.result _
    (known ∙ row_terms c.args.constraint.now.row c.args.places.now c.args.multiplier rising
    (below c.args.constraint.now.row _ rising c.requires))
