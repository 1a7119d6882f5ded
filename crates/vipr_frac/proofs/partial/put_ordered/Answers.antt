use Rattle.std.specs.Int.{w64}
use Rattle.std.proofs.lemmas.Int.{to_z-of_z}
use Rattle.vipr_frac.proofs.Unreduced.{put_value, whole_factor}
use Rattle.vipr_frac.proofs.partial.put_ordered.Goals as goal

pub returns-then-rest-eq0 : goal.returns-then-rest-eq0
returns-then-rest-eq0 c =
    let h = c.raised_sum.ensures.value c.args.q c.requires.left.some
    (whole_factor c.args.q c.args.s c.if-rest-eq0.true) in
    let sum = rw (to_z-of_z w64 c.args.p c.ranges.p, to_z-of_z w64 c.args.r c.ranges.r) at h in
    let both = put_value c.raised_sum.result c.put.result _ _ _ c.put.ensures sum in
    record { sum = both.0; kept = both.1 }

pub returns : goal.returns
returns c = rw (to_z-of_z w64 c.args.p c.ranges.p, to_z-of_z w64 c.args.r c.ranges.r) at c.put_mixed.ensures
