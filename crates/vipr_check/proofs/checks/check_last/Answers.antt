use Rattle.std.proofs.Common.{sym, subst}
use Rattle.vipr_check.specs.Checks.{ChecksIn}
use Rattle.vipr_check.proofs.Answering.{run_checks}
use Rattle.vipr_rules.specs.Profile.{profile_of}
use Rattle.vipr_check.proofs.checks.check_last.Goals as goal

pub returns : goal.returns
returns g c =
    let P = profile_of c.args.profile in
    let source = g.R.Source.input c.args.source in
    subst (ChecksIn P source) (sym c.verdict_of.ensures)
    (run_checks P source c.run-outcome.result c.run-outcome.ensures.any
    c.run-outcome.ensures.explained)
