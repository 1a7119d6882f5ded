use Rattle.std.proofs.Common.{◌∙◌, sym, map, take}
use Rattle.vipr_command.proofs.ArgsLemmas.{AsksHelp, asked_err, asked_kinds, asked_ok, help_asked}
use Rattle.vipr_command.proofs.ArgsLemmas.{still_asked}
use Rattle.vipr_command.proofs.args.job_for.Goals as goal
use Rattle.vipr_command.proofs.args.job_for.Goals.{After-job_by}

module _ (c : After-job_by) where
  asked : AsksHelp (map (λ w. w.now) c.args.words.now)
  asked = help_asked _ (sym c.asks_for_help.ensures ∙ c.if-asks_for_help.true)

  still : AsksHelp (map (λ w. w.now) (take 2 c.args.words.now))
  still = still_asked (λ w. w.now) c.args.words.now asked

pub returns-then-asks_for_help-clause-ok : goal.returns-then-asks_for_help-clause-ok
returns-then-asks_for_help-clause-ok c = asked_ok c.job_by.result _ _ (still c) c.job_by.ensures.kinds

pub returns-then-asks_for_help-clause-err : goal.returns-then-asks_for_help-clause-err
returns-then-asks_for_help-clause-err c = asked_err c.job_by.result _ _ (asked c)

pub returns-then-asks_for_help-clause-kinds : goal.returns-then-asks_for_help-clause-kinds
returns-then-asks_for_help-clause-kinds c = asked_kinds c.job_by.result _ _ (asked c) (still c) c.job_by.ensures.kinds
