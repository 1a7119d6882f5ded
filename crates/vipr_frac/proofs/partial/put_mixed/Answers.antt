use Rattle.std.proofs.Common.{◌≡◌, ◌∙◌, ap}
use Rattle.std.specs.Int.{w64}
use Rattle.std.proofs.lemmas.Int.{to_z-of_z}
use Rattle.vipr_spec.specs.Gcd.{gcd}
use Rattle.vipr_frac.proofs.Unreduced.{put_value, first_factor, second_factor}
use Rattle.vipr_frac.proofs.{Steps.gcd-rest, Steps.gcd-swap, partial.put_mixed.Goals.After-word_gcd}
use Rattle.vipr_frac.proofs.partial.put_mixed.Goals as goal

g_is : (c : After-word_gcd) → c.word_gcd.result ≡ gcd c.args.q c.args.s
g_is c = c.word_gcd.ensures.value ∙ ap (λ n. gcd n c.args.q) c.requires.rest
    ∙ gcd-rest c.args.s c.args.q ∙ gcd-swap c.args.s c.args.q

pub common_sum-requires-clause-divides_left : goal.common_sum-requires-clause-divides_left
common_sum-requires-clause-divides_left c = first_factor c.args.q c.args.s _
    (g_is (goal.at.common_sum-requires-clause-divides_left c).After-word_gcd)

pub common_sum-requires-clause-divides_right : goal.common_sum-requires-clause-divides_right
common_sum-requires-clause-divides_right c = second_factor c.args.q c.args.s _
    (g_is (goal.at.common_sum-requires-clause-divides_right c).After-word_gcd)

pub returns : goal.returns
returns c =
    let sum = rw (to_z-of_z w64 c.args.p c.ranges.p, to_z-of_z w64 c.args.r c.ranges.r) at c.common_sum.ensures.sum in
    let h = put_value c.common_sum.result c.put.result _ _ _ c.put.ensures sum in
    record { sum = h.0; kept = h.1 }
