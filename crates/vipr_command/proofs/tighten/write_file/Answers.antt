use Rattle.std.proofs.{Common.Ok, Common.Err, Common.refl, lemmas.Result.err_from_is_err_and}
use Rattle.vipr_rules.specs.Profile.{profile_of}
use Rattle.vipr_tighten.specs.declared.outcome.TightenFault.TheVariants as tighten
use Rattle.vipr_command.specs.declared.fault.CommandFault.TheVariants.{Memory}
use Rattle.vipr_command.specs.{Folder.begun_for, Tighten.WritesFile}
use Rattle.vipr_command.proofs.TightenLemmas.{settled, unwritten}
use Rattle.vipr_command.proofs.{InputLemmas.of_any, ShowLemmas.stays}
use Rattle.vipr_command.proofs.tighten.write_file.Goals as goal

pub returns-in_err-place : goal.returns-in_err-place
returns-in_err-place g c =
    let P = profile_of c.args.job.now.profile in
    let F = c.args.job.now.form in
    let files = g.D.Folder.known c.args.files.now in
    let name = c.args.name.now in
    let q = err_from_is_err_and c.from_residual.result c.from_residual.ensures.1 in
    rw (q.1, q.2)
    (of_any (g.R.Source.input c.args.source)
    (λ k. WritesFile P F (k.proof P) files files name (Err Memory))
    (λ k. unwritten P F (k.proof P) files name (tighten.Memory 0)
    (refl, stays (begun_for files name))))

pub returns-in_err-outcome : goal.returns-in_err-outcome
returns-in_err-outcome g c =
    let q = err_from_is_err_and c.from_residual-in_err-outcome.result c.from_residual-in_err-outcome.ensures.1 in
    settled (profile_of c.args.job.now.profile) c.args.job.now.form (g.R.Source.input c.args.source)
    (g.D.Folder.known c.args.files.now) (g.D.Folder.known c.settle.new.files) c.args.name.now
    (g.D.Out.Sink.output c.in_ok-place.place)
    (g.D.Out.Sink.output c.tighten_as-tightened.new.sink) c.tighten_as-tightened.result
    (Err c.in_err-outcome.field-0.0) c.from_residual-in_err-outcome.result c.in_ok-place.ensures
    c.tighten_as-tightened.ensures.tightens c.in_err-outcome.ensures (rw (q.1, q.2))

pub returns : goal.returns
returns g c = settled (profile_of c.args.job.now.profile) c.args.job.now.form
    (g.R.Source.input c.args.source) (g.D.Folder.known c.args.files.now)
    (g.D.Folder.known c.settle.new.files) c.args.name.now (g.D.Out.Sink.output c.in_ok-place.place)
    (g.D.Out.Sink.output c.tighten_as-tightened.new.sink) c.tighten_as-tightened.result
    (Ok c.in_ok-outcome.outcome) (Ok c.of_outcome.result) c.in_ok-place.ensures
    c.tighten_as-tightened.ensures.tightens c.in_ok-outcome.ensures c.of_outcome.ensures
