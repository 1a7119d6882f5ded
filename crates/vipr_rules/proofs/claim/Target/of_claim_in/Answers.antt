use Rattle.vipr_rules.specs.Profile.{profile_of}
use Rattle.vipr_rules.proofs.ClaimLemmas.{bound_is_target, whole_bound_is_target}
use Rattle.vipr_rules.proofs.claim.Target.of_claim_in.Goals as goal

pub returns-then-may_round : goal.returns-then-may_round
returns-then-may_round c =
    whole_bound_is_target c.args.p.now c.in-Range.lower c.in-Range.upper c.in-Some.bound
    c.in-Range.ensures (profile_of c.args.profile) c.in_ok-goal.goal c.in-Some.ensures
    c.in_ok-goal.ensures
    (c.may_round.ensures.0 c.if-may_round.true)

pub returns-else-may_round : goal.returns-else-may_round
returns-else-may_round c =
    bound_is_target c.args.p.now c.in-Range.lower c.in-Range.upper c.in-Some.bound
    c.in-Range.ensures (profile_of c.args.profile) c.in_ok-goal.goal c.in-Some.ensures
    c.in_ok-goal.ensures
    (λ h. let t = c.may_round.ensures.1 h in let f = c.if-may_round.false in absurd (cc))
