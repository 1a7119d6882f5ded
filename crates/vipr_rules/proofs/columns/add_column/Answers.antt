use Rattle.std.proofs.Common.{refl, sym, subst, subst₂, ◌∙◌, ◌+◌, length}
use Rattle.vipr_spec.specs.Constraint.{at}
use Rattle.vipr_rules.specs.Columns.{nth, given_of, IsPlace, no_entry}
use Rattle.vipr_rules.proofs.ColumnLemmas.{half_sums_start, half_sums_next, half_sums_end}
use Rattle.vipr_rules.proofs.ColumnLemmas.{AreHalfSums, there}
use Rattle.vipr_rules.proofs.columns.add_column.Goals as goal

pub loop-entry-init : goal.loop-entry-init
loop-entry-init c = record {
  sums = λ o j x is coordinate all. half_sums_start o (given_of c.args.cons.now) x j
      (length c.args.sums.now) c.args.places.now is c.args.sums.now refl all;
  constraints = refl;
}

pub add_entry-requires : goal.add_entry-requires
add_entry-requires c =
    let j = c.requires.places.1 in
    let found = c.requires.places.2.found c.loop-entry.entry-index c.loop-entry-test.true in
    let here = there c.args.places.now c.loop-entry.entry-index no_entry c.entry-item.result
    c.loop-entry-test.true c.entry-item.is in
    record {
      place = (
        j,
        subst₂ (λ n e. IsPlace (given_of c.args.cons.now) n j e)
            (sym c.loop-entry.invariant.constraints) here found,
      );
    }

pub loop-entry-preserved : goal.loop-entry-preserved
loop-entry-preserved c =
    let cs = given_of c.args.cons.now in
    let places = c.args.places.now in
    let old = c.loop-entry.sums in
    let i = c.loop-entry.entry-index in
    let l = c.loop-entry-test.true in
    let p = c.entry-item.result in
    record {
      sums = λ o j x is coordinate all.
          let here = there places i no_entry p l c.entry-item.is in
          let place = subst₂ (λ n e. IsPlace cs n j e) (sym c.loop-entry.invariant.constraints) here
          (is.found i l) in
          let new = c.in_ok-add_entry.ensures.sum j place in
          let fits = c.in_ok-add_entry.ensures.fits j place refl in
          subst (AreHalfSums o cs x j places (i + 1)) (sym new)
          (half_sums_next o cs x j (length c.args.sums.now) places is old i p l c.entry-item.is
          place.0 (at (nth cs p.0).row j) c.args.coordinate refl coordinate fits
          (c.loop-entry.invariant.sums o j x is coordinate all));
      constraints = c.add_entry.ensures.constraints ∙ c.loop-entry.invariant.constraints;
    }

pub returns-clause-sums : goal.returns-clause-sums
returns-clause-sums c = λ o j x is coordinate all. half_sums_end o (given_of c.args.cons.now) x j
    (length c.args.sums.now) c.args.places.now is c.loop-entry.sums c.loop-entry.entry-index
    c.loop-entry-test.false (c.loop-entry.invariant.sums o j x is coordinate all)
