use Rattle.std.proofs.Common.{◌≡◌, ◌*◌, ◌%◌, ◌<◌, ◌^◌, ap, ap₂, refl, ◌∙◌, arith}
use Rattle.std.proofs.Math.Nat.{mod-eq_of_lt}
use Rattle.std.specs.Int.{w128}
use Rattle.vipr_spec.specs.Gcd.{gcd}
use Rattle.vipr_frac.proofs.{Halving.halved, Halving.odd_is, Halving.twos_back, Steps.gcd-at_most}
use Rattle.vipr_frac.proofs.gcd.wide_gcd.Goals as goal

pub loop-y-init : goal.loop-y-init
loop-y-init c = (odd_is w128 c.args.b c.requires.second c.ranges.b.fits, refl)

pub loop-y-preserved : goal.loop-y-preserved
loop-y-preserved c =
    let some : 0 < c.loop-y.y = omega arith in
    let step = halved w128 c.loop-y.x c.loop-y.y some c.loop-y.auto.y-fits.fits c.loop-y.invariant.0 in (
      ap (λ n. n % 2) c.min-x.ensures ∙ step.0,
      ap₂ gcd c.min-x.ensures c.abs_diff-y.ensures ∙ step.1
          ∙ c.loop-y.invariant.1,
    )

pub returns : goal.returns
returns c =
    let product : c.gcd_with_word.result * 2 ^ c.min.result ≡ gcd c.args.a c.args.b =
    ap₂ (λ g n. g * 2 ^ n) (c.gcd_with_word.ensures ∙ c.loop-y.invariant.1) c.min.ensures
    ∙ twos_back w128 c.args.a c.args.b c.requires.first c.ranges.a.fits c.requires.second c.ranges.b.fits in
    let most = gcd-at_most c.args.a c.args.b _ c.requires.second product in
    let small : c.args.b < 2 ^ 128 = c.ranges.b.fits in
    mod-eq_of_lt (omega (arith, most, small)) ∙ product
