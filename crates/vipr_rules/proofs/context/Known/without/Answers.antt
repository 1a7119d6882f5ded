use Rattle.std.proofs.Common.{sym, ap, ◌∙◌}
use Rattle.std.specs.FinSet.{remove}
use Rattle.vipr_rules.specs.Context.{set_of}
use Rattle.vipr_table.proofs.Laws.{remove_none}
use Rattle.vipr_rules.proofs.context.Known.without.Goals as goal

pub returns-in-Given : goal.returns-in-Given
returns-in-Given c = c.empty.ensures ∙ remove_none c.args.index
    ∙ ap (λ k. remove (set_of k) c.args.index) (sym c.in-Given.is)
