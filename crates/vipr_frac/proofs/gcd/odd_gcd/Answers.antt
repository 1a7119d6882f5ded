use Rattle.std.proofs.Common.{◌≡◌, ◌%◌, ◌<◌, ap, ap₂, sym, ◌∙◌, arith, pos_of_ne-zero}
use Rattle.std.specs.Int.{w64}
use Rattle.vipr_spec.specs.Gcd.{gcd}
use Rattle.vipr_frac.proofs.{Halving.halved, Steps.gcd-end, Steps.one-gcd}
use Rattle.vipr_frac.proofs.gcd.odd_gcd.Goals as goal

pub loop-y-preserved : goal.loop-y-preserved
loop-y-preserved c =
    let some : 0 < c.loop-y.y = pos_of_ne-zero c.loop-y-test.true in
    let step = halved w64 c.loop-y.x c.loop-y.y some c.loop-y.auto.y-fits.fits c.loop-y.invariant.0 in (
      ap (λ n. n % 2) c.min-x.ensures ∙ step.0,
      ap₂ gcd c.min-x.ensures c.abs_diff-y.ensures ∙ step.1
          ∙ c.loop-y.invariant.1,
    )

-- a divisor 1 is the greatest
pub returns-else-x-ne1 : goal.returns-else-x-ne1
returns-else-x-ne1 c =
    let one : c.loop-y.x ≡ 1 = omega arith in
    one ∙ sym (ap (λ n. gcd n c.loop-y.y) one ∙ one-gcd c.loop-y.y) ∙ c.loop-y.invariant.1

pub returns-after-loop-y : goal.returns-after-loop-y
returns-after-loop-y c = sym (gcd-end _ _ (omega arith)) ∙ c.loop-y.invariant.1
