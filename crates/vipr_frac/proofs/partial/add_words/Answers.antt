use Rattle.std.proofs.Common.{subst}
use Rattle.vipr_spec.specs.Fraction.{over}
use Rattle.vipr_frac.specs.Parts.{IsSmall, AreWords}
use Rattle.vipr_frac.proofs.Unreduced.{word_abs, small_over}
use Rattle.vipr_frac.proofs.{Small.small_sum_fits, Sums.SumFits-parts, Views.as-is}
use Rattle.vipr_frac.proofs.partial.add_words.Goals as goal

pub returns-in-Some-clause-fits : goal.returns-in-Some-clause-fits
returns-in-Some-clause-fits c =
    let words : AreWords c.sum.inside.p c.sum.inside.q = subst (λ z. AreWords z c.sum.inside.q)
    (as-is c.sum.inside.p c.sum.invariant.numer_bounded) c.in-Some.ensures.0 in
    let left : IsSmall c.args.sum.now =
    subst IsSmall c.sum.view_is
    (small_over _ _ c.sum.invariant.some (word_abs _ words.numer) words.denom) in
    let right : IsSmall (over c.args.r c.args.s) =
    small_over _ _ c.requires.some (word_abs _ c.ranges.r) c.requires.denom in
    λ _. SumFits-parts _ _ (small_sum_fits _ _ left right)
