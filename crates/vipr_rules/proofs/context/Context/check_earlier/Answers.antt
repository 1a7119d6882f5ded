use Rattle.std.proofs.Common.{◌∙◌}
use Rattle.vipr_rules.proofs.ContextLemmas.{earlier_stops}
use Rattle.vipr_rules.proofs.context.Context.check_earlier.Goals as goal

pub returns-then-next-index : goal.returns-then-next-index
returns-then-next-index g c = λ P d e is. earlier_stops P d e c.args.index c.next.result
    (c.next.ensures ∙ is.rows.next) c.if-next-index.true
