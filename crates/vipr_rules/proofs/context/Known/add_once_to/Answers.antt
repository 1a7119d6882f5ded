use Rattle.std.proofs.Common.{sym, ap, ◌∙◌}
use Rattle.std.specs.FinSet.{union}
use Rattle.vipr_rules.specs.Context.{set_of}
use Rattle.vipr_table.specs.Unions.{union_so_far}
use Rattle.vipr_table.proofs.Laws.{union_none}
use Rattle.vipr_rules.proofs.context.Known.add_once_to.Goals as goal

pub returns-in-Given-clause-union : goal.returns-in-Given-clause-union
returns-in-Given-clause-union c = union_none (union_so_far c.args.others.now)
    ∙ ap (λ k. union (union_so_far c.args.others.now) (set_of k)) (sym c.in-Given.is)
