use Rattle.std.proofs.Common.{arith, ap, ◌≡◌, ◌+◌, ◌∙◌, sym, subst, refl, drop, length}
use Rattle.std.proofs.{lemmas.Bool.false≢true, lemmas.List.length-set}
use Rattle.vipr_linear.specs.Accumulator.{with_term, with_terms, TermsFitIn}
use Rattle.vipr_linear.proofs.Marks.{not_both, next_fits, next_sums, all_fit, no_more}
use Rattle.vipr_linear.proofs.places.Places.add_terms.Goals as goal

pub returns-in_err-add_term-clause-fits : goal.returns-in_err-add_term-clause-fits
returns-in_err-add_term-clause-fits c =
    let fits = next_fits c.loop-entry.self c.args.multiplier c.args.entries.now
    c.loop-entry.entry-index c.entry-item.result (omega arith) c.entry-item.is in (
      λ o. absurd (not_both _ c.from_residual.ensures.0 o),
      λ h. absurd (false≢true (c.in_err-add_term.ensures.fits.1 (fits.0 (c.loop-entry.invariant.fits.0 h)).0)),
    )

pub loop-entry-preserved : goal.loop-entry-preserved
loop-entry-preserved c =
    let i = c.loop-entry.entry-index in
    let was = c.loop-entry.self in
    let m = c.args.multiplier in
    let es = c.args.entries.now in
    let new : c.add_term.new.self ≡ with_term was m c.entry-item.result = c.in_ok-add_term.ensures.sum in
    let fit = c.in_ok-add_term.ensures.fits.0 refl in
    let fits = next_fits was m es i c.entry-item.result (omega arith) c.entry-item.is in
    let before = c.loop-entry.invariant in
    record {
      places = ap length new ∙ length-set was c.entry-item.result.0 _ ∙ before.places;
      fits = (
        λ h. subst (λ xs. TermsFitIn xs m (drop (i + 1) es)) (sym new) (fits.0 (before.fits.0 h)).1,
        λ h. before.fits.1 (fits.1 (fit, subst (λ xs. TermsFitIn xs m (drop (i + 1) es)) new h)),
      );
      sums = ap (λ xs. with_terms xs m (drop (i + 1) es)) new
          ∙ sym (next_sums was m es i c.entry-item.result (omega arith) c.entry-item.is)
          ∙ before.sums;
    }

pub returns-clause-fits : goal.returns-clause-fits
returns-clause-fits c = (
  λ _. c.loop-entry.invariant.fits.1
      (all_fit _ _ _ c.loop-entry.entry-index c.loop-entry-test.false),
  λ _. refl,
)

pub returns-clause-sums : goal.returns-clause-sums
returns-clause-sums c =
    sym (no_more _ c.args.multiplier c.args.entries.now c.loop-entry.entry-index
    c.loop-entry-test.false) ∙ c.loop-entry.invariant.sums
