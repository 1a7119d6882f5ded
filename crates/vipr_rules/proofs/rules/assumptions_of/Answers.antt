use Rattle.std.proofs.Common.{refl}
use Rattle.vipr_rules.specs.Profile.{profile_of}
use Rattle.vipr_rules.proofs.Applying.{applies_with_entry, weaker}
use Rattle.vipr_rules.proofs.rules.assumptions_of.Goals as goal

pub returns-clause-applies : goal.returns-clause-applies
returns-clause-applies g c =
    let P = profile_of c.args.context.now.profile in
    applies_with_entry P _ _ _ c.args.step.now c.test_by_rule.result
    (λ d is table best. c.test_by_rule.ensures.ruled P d
    (record { profile = refl; problem = is; rows = table; best = best }))
    (weaker c.test_by_rule.result _ _
    (λ s h says q rows admitted next. h says q (record { rows = rows; admitted = admitted })
    next) c.test_by_rule.ensures.sound)
