use Rattle.vipr_command.specs.{Run.outside_of, declared.request.Task.TheVariants.Tighten}
use Rattle.vipr_command.proofs.RunLemmas.{done_answer, done_as}
use Rattle.vipr_command.proofs.command.do_task.Goals as goal

pub returns-in-Tighten : goal.returns-in-Tighten
returns-in-Tighten g c =
    done_as c.args.job.now (g.R.Source.input c.args.source)
    (outside_of (g.O.Sink.output c.args.out.now) (g.D.Folder.known c.args.files.now))
    (outside_of (g.O.Sink.output c.print_tightened.new.out)
    (g.D.Folder.known c.print_tightened.new.files)) c.print_tightened.result Tighten
    c.in-Tighten.is c.print_tightened.ensures

pub returns-in-Check : goal.returns-in-Check
returns-in-Check g c = done_answer c.args.job.now (g.R.Source.input c.args.source)
    (g.O.Sink.output c.args.out.now) (g.O.Sink.output c.print_answer.new.out)
    (g.D.Folder.known c.args.files.now) c.answer_to.result c.print_answer.result c.in-Check.is
    c.answer_to.ensures c.print_answer.ensures
