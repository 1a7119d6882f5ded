use Rattle.std.proofs.Common.{arith, refl}
use Rattle.vipr_linear.proofs.Counting.{all_zero_listed}
use Rattle.vipr_linear.proofs.places.Places.are_zero.Goals as goal

pub returns : goal.returns
returns c = (
  λ _ j. all_zero_listed c.args.self.now c.touched-place-items.result.now
      c.touched-place-items.ensures.nonzero
      (λ k l. c.loop-place.invariant k (let past = c.loop-place-test.false in omega (arith, l, past)))
      j,
  λ _. refl,
)
