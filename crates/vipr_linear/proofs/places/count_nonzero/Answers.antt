use Rattle.std.proofs.Common.{arith, ◌≡◌, ◌≢◌, ◌<◌, ◌∙◌, sym, get_or, length}
use Rattle.std.proofs.lemmas.Bool.{false≢true}
use Rattle.vipr_spec.specs.Fraction.{zero_ℚ}
use Rattle.vipr_linear.proofs.Counting.{counted, passed}
use Rattle.vipr_linear.proofs.places.count_nonzero.Goals as goal
use Rattle.vipr_linear.proofs.places.count_nonzero.Goals.{then-not-is_zero, else-not-is_zero}

pub loop-place-preserved : goal.loop-place-preserved
loop-place-preserved c =
    let i = c.loop-place.place-index in
    let within : get_or c.args.places.now i 0 < length c.args.sums.now = c.requires i 0 c.loop-place-test.true in
    elim c.if-not-is_zero.branch [
      | then-not-is_zero w ↦
          let some : c.index-sums-place.result ≢ zero_ℚ =
          λ z. false≢true (sym w.if-not-is_zero.true ∙ c.is_zero.ensures.1 z) in
          let more = counted c.args.sums.now c.args.places.now i c.index-sums-place.result
          c.loop-place-test.true within c.index-sums-place.is some in
          record {
            within = omega (arith, w.count-is, c.loop-place.invariant.within);
            count = omega (arith, w.count-is, c.loop-place.invariant.count, more);
          }
      | else-not-is_zero w ↦
          let zero : c.index-sums-place.result ≡ zero_ℚ = c.is_zero.ensures.0 w.if-not-is_zero.false in
          let same = passed c.args.sums.now c.args.places.now i c.index-sums-place.result
          c.loop-place-test.true within c.index-sums-place.is zero in
          record {
            within = omega (arith, w.count-is, c.loop-place.invariant.within);
            count = omega (arith, w.count-is, c.loop-place.invariant.count, same);
          }
    ]
