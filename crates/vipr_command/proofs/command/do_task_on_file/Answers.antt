use Rattle.std.proofs.Common.{Err}
use Rattle.vipr_command.specs.Run.{DoesJob, outside_of}
use Rattle.vipr_command.specs.declared.fault.CommandFault.TheVariants.{Read}
use Rattle.vipr_command.proofs.RunLemmas.{done_with_opened, unopened, unread_job}
use Rattle.vipr_command.proofs.command.do_task_on_file.Goals as goal

pub returns-in-Ok-clause-done : goal.returns-in-Ok-clause-done
returns-in-Ok-clause-done g c =
    let old = outside_of (g.O.Sink.output c.args.out.now) (g.D.Folder.known c.args.files.now) in
    let new = outside_of (g.O.Sink.output c.do_task.new.out) (g.D.Folder.known c.do_task.new.files) in
    done_with_opened _ g.D.In.Source.input
    ((g.D.Folder.known c.args.files.now).holds c.args.name.now) c.in-Ok.source
    (λ k. DoesJob c.args.job.now k old new c.do_task.result) c.in-Ok.ensures c.do_task.ensures

pub returns-after-eq-clause-done : goal.returns-after-eq-clause-done
returns-after-eq-clause-done g c =
    let old = g.O.Sink.output c.args.out.now in
    let files = g.D.Folder.known c.args.files.now in
    unopened _ g.D.In.Source.input (files.holds c.args.name.now) c.in-Err.error
    (λ k. DoesJob c.args.job.now k (outside_of old files) (outside_of old files) (Err Read))
    c.in-Err.ensures (unread_job c.args.job.now old files)
