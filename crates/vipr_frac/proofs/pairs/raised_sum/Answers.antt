use Rattle.std.proofs.{Common.rules, Common.FitsSigned, lemmas.Int.to_z-of_z}
use Rattle.std.specs.Int.{w64}
use Rattle.vipr_frac.proofs.Unreduced.{raised_sum}
use Rattle.vipr_frac.proofs.pairs.raised_sum.Goals as goal

pub returns-clause-value : goal.returns-clause-value
returns-clause-value c =
    let fits : FitsSigned w64 c.in_ok-both.field-0 = search rules in
    let sum = rw (to_z-of_z w64 c.args.p c.ranges.p, to_z-of_z w64 c.args.r c.ranges.r) at c.in_ok-both.ensures in
    λ q some times. rw (to_z-of_z w64 _ fits, sum)
    (raised_sum q c.args.s c.args.n some c.requires.some times c.args.p c.args.r)
