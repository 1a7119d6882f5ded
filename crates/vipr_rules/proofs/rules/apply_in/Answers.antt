use Rattle.std.proofs.{Common.refl, lemmas.Result.err_from_is_err_and}
use Rattle.vipr_rules.specs.Profile.{profile_of}
use Rattle.vipr_rules.proofs.Applying.{applies, applies_not, applies_full}
use Rattle.vipr_rules.proofs.rules.apply_in.Goals as goal

pub returns-in_err-assumptions-clause-applies : goal.returns-in_err-assumptions-clause-applies
returns-in_err-assumptions-clause-applies g c =
    let P = profile_of c.args.profile in
    let p = err_from_is_err_and c.from_residual.result c.from_residual.ensures.1 in
    rw (p.1, p.2)
    (applies_not P _ _ _ c.args.step.now _
    (λ d is table best. c.in_err-assumptions.ensures.ruled P d
    (record { profile = refl; problem = is; rows = table; best = best })))

pub returns-in-Err-clause-applies : goal.returns-in-Err-clause-applies
returns-in-Err-clause-applies g c =
    let P = profile_of c.args.profile in
    applies_full P _ _ _ c.args.step.now _
    (λ d is table best. c.in_ok-assumptions.ensures.ruled P d
    (record { profile = refl; problem = is; rows = table; best = best }))

pub returns-in-Ok-clause-applies : goal.returns-in-Ok-clause-applies
returns-in-Ok-clause-applies g c =
    let P = profile_of c.args.profile in
    applies P _ _ _ c.args.step.now _
    (λ d is table best. c.in_ok-assumptions.ensures.ruled P d
    (record { profile = refl; problem = is; rows = table; best = best }))
    (λ says x rows admitted next. c.in_ok-assumptions.ensures.sound says x
    (record { rows = rows; admitted = admitted }) next) _ c.in-Ok.ensures.cases refl
    c.is_assumption.ensures refl
