use Rattle.vipr_rules.specs.Profile.{profile_of}
use Rattle.vipr_command.proofs.TightenLemmas.{printed_here, written_there}
use Rattle.vipr_command.proofs.tighten.print_tightened.Goals as goal

pub returns-in-None : goal.returns-in-None
returns-in-None g c =
    let j = c.args.job.now in
    printed_here (profile_of j.profile) j.form (g.R.Source.input c.args.source) j.out
    (g.O.Sink.output c.args.out.now) (g.O.Sink.output c.write_tightened.new.sink)
    (g.D.Folder.known c.args.files.now) c.write_tightened.result c.in-None.is
    c.write_tightened.ensures

pub returns-in-Some : goal.returns-in-Some
returns-in-Some g c =
    let j = c.args.job.now in
    written_there (profile_of j.profile) j.form (g.R.Source.input c.args.source) j.out
    c.in-Some.name (g.O.Sink.output c.args.out.now) (g.D.Folder.known c.args.files.now)
    (g.D.Folder.known c.write_file.new.files) c.write_file.result c.in-Some.is
    c.write_file.ensures
