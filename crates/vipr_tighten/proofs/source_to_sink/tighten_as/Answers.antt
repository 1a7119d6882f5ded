use Rattle.std.proofs.Common.{sym, subst}
use Rattle.vipr_rules.specs.Profile.{profile_of}
use Rattle.vipr_tighten.specs.Tightens.{TightensAs}
use Rattle.vipr_tighten.proofs.Outcomes.{decided_proof, decided_not}
use Rattle.vipr_tighten.proofs.source_to_sink.tighten_as.Goals as goal

pub returns-in-Ok-clause-tightens : goal.returns-in-Ok-clause-tightens
returns-in-Ok-clause-tightens g c =
    let P = profile_of c.args.profile in
    let (x, is, found) = c.in-Ok.ensures.proof in
    decided_proof P c.args.form (g.R.Source.input c.args.source) x c.in-Ok.proof.report
    (g.W.Sink.output c.args.sink.now) (g.W.Sink.output c.write_tightened-written.new.sink)
    c.write_tightened-written.result (c.write_tightened-written.ensures.text P c.args.form x is)
    found

pub returns-in-Err-clause-tightens : goal.returns-in-Err-clause-tightens
returns-in-Err-clause-tightens g c =
    let P = profile_of c.args.profile in
    let source = g.R.Source.input c.args.source in
    let old = g.W.Sink.output c.args.sink.now in
    subst (TightensAs P c.args.form source old old) (sym c.without_proof.ensures)
    (decided_not P c.args.form source c.in-Err.reason old c.in-Err.ensures.unproved)
