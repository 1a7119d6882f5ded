use Rattle.std.proofs.Common.{arith, refl, sym, subst₂, ◌∙◌, ◌<◌, ◌≤◌, length}
use Rattle.std.proofs.lemmas.Bool.Decides.{nat_tests}
use Rattle.vipr_spec.specs.Constraint.{at}
use Rattle.vipr_rules.specs.Columns.{given_of, ArePlaces}
use Rattle.vipr_rules.proofs.ColumnLemmas.{summed_start, summed_end, rest_past, summed_here}
use Rattle.vipr_rules.proofs.ColumnLemmas.{summed_next, coordinate_is, column_read}
use Rattle.vipr_rules.proofs.columns.add_solution.Goals as goal

pub loop-variable-init : goal.loop-variable-init
loop-variable-init c = record {
  sums = λ o all zeros. summed_start o (given_of c.args.cons.now) c.args.solution.now.0
      (length c.args.columns.now) c.entries-variable-items.result.now
      c.entries-variable-items.ensures.list c.entries-variable-items.ensures.rising c.args.sums.now
      zeros;
  constraints = refl;
}

pub returns-in_default-clause-sums : goal.returns-in_default-clause-sums
returns-in_default-clause-sums c = λ o all zeros.
    let past : length c.args.columns.now ≤ c.loop-variable-item.result.0 =
    (let t = c.in_default.ensures.lookup.0 in grind (arith, nat_tests)) in
    let es = c.entries-variable-items.result.now in
    let list = c.entries-variable-items.ensures.list in
    let rising = c.entries-variable-items.ensures.rising in
    summed_end o (given_of c.args.cons.now) c.args.solution.now.0 (length c.args.columns.now) es
    list rising c.loop-variable.sums c.loop-variable.variable-index
    (rest_past o (given_of c.args.cons.now) c.args.solution.now.0 (length c.args.columns.now) es
    list rising c.loop-variable.variable-index c.loop-variable-item.result
    c.loop-variable-test.true c.loop-variable-item.is past)
    (c.loop-variable.invariant.sums o all zeros)

pub add_column-requires : goal.add_column-requires
add_column-requires c =
    let within : c.loop-variable-item.result.0 < length c.args.columns.now =
    (let t = c.in-Some.ensures.lookup.0 in grind (arith, nat_tests)) in
    let read = column_read c.args.columns.now c.loop-variable-item.result.0 within
    c.in-Some.column.now c.in-Some.ensures.lookup.1 in
    record {
      places = (
        c.requires.columns.0,
        c.loop-variable-item.result.0,
        subst₂ (λ n xs. ArePlaces c.requires.columns.0 (given_of c.args.cons.now) n
            c.loop-variable-item.result.0 xs) (sym c.loop-variable.invariant.constraints)
            (read ∙ sym c.deref.ensures.value) (c.requires.columns.1 c.loop-variable-item.result.0),
      );
    }

pub loop-variable-preserved : goal.loop-variable-preserved
loop-variable-preserved c =
    let within : c.loop-variable-item.result.0 < length c.args.columns.now =
    (let t = c.in-Some.ensures.lookup.0 in grind (arith, nat_tests)) in
    let read = column_read c.args.columns.now c.loop-variable-item.result.0 within
    c.in-Some.column.now c.in-Some.ensures.lookup.1 in
    let cs = given_of c.args.cons.now in
    let s = c.args.solution.now.0 in
    let n = length c.args.columns.now in
    let es = c.entries-variable-items.result.now in
    let list = c.entries-variable-items.ensures.list in
    let rising = c.entries-variable-items.ensures.rising in
    let i = c.loop-variable.variable-index in
    let p = c.loop-variable-item.result in
    let l = c.loop-variable-test.true in
    let e = c.loop-variable-item.is in
    record {
      sums = λ o all zeros.
          let places = subst₂ (λ n xs. ArePlaces o cs n p.0 xs)
          (sym c.loop-variable.invariant.constraints) (read ∙ sym c.deref.ensures.value)
          (all p.0) in
          let before = c.loop-variable.invariant.sums o all zeros in
          summed_next o cs s n es list rising i p l e c.loop-variable.sums c.add_column.new.sums within before
          (c.in_ok-add_column.ensures.sums o p.0 (at s) places
          (coordinate_is s es list rising i p l e)
          (summed_here o cs s n es list rising i p l e c.loop-variable.sums before));
      constraints = c.add_column.ensures.constraints ∙ c.loop-variable.invariant.constraints;
    }

pub returns-clause-sums : goal.returns-clause-sums
returns-clause-sums c = λ o all zeros.
    let past = c.loop-variable-test.false in
    summed_end o (given_of c.args.cons.now) c.args.solution.now.0 (length c.args.columns.now)
    c.entries-variable-items.result.now c.entries-variable-items.ensures.list
    c.entries-variable-items.ensures.rising c.loop-variable.sums c.loop-variable.variable-index
    (λ k a b. absurd (omega (arith, a, b, past))) (c.loop-variable.invariant.sums o all zeros)
