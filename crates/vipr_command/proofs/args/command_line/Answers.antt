use Rattle.std.proofs.{Common.ap, Common.◌∙◌, lemmas.Result.IfOk-weaker}
use Rattle.clap.specs.Words.{App}
use Rattle.vipr_command.specs.Args.{line, with_task}
use Rattle.vipr_command.specs.declared.request.Task.TheVariants.{Check, Explain, Show, Tighten}
use Rattle.vipr_command.proofs.args.command_line.Goals as goal

pub returns : goal.returns
unfolding line
returns c =
    let checks = c.in_ok-line.ensures ∙ ap (λ (l : App). with_task l Check) c.no_commands.ensures in
    let explains = c.in_ok-line-2.ensures ∙ ap (λ (l : App). with_task l Explain) checks in
    let shows = c.in_ok-line-3.ensures ∙ ap (λ (l : App). with_task l Show) explains in
    IfOk-weaker c.with_task-4.result _ _ (λ r h. h ∙ ap (λ (l : App). with_task l Tighten) shows) c.with_task-4.ensures
