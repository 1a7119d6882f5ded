use Rattle.vipr_spec.proofs.Laws.{next_good}
use Rattle.vipr_cert.specs.Items.{derivation_of}
use Rattle.vipr_rules.specs.Profile.{profile_of}
use Rattle.vipr_explain.proofs.changes.follows.Goals as goal

pub returns-in-Ok-kept-clause-follows : goal.returns-in-Ok-kept-clause-follows
returns-in-Ok-kept-clause-follows c = λ is cert problem solutions rows back.
    let P = profile_of c.args.refused.subject.profile in
    let step = c.in-Ok.step in
    let decided = c.in-Ok-kept.ensures.applies.decided cert problem rows back solutions in
    let good = next_good P cert (derivation_of step) decided.0 in
    rw (c.in-Ok.ensures.stated, c.in-Ok.ensures.reason) at good
