use Rattle.std.proofs.Common.{sym, ap, ◌∙◌}
use Rattle.std.specs.FinSet.{union}
use Rattle.vipr_table.specs.Unions.{union_so_far}
use Rattle.vipr_table.proofs.Laws.{union_none}
use Rattle.vipr_rules.proofs.sum.join.Goals as goal

pub returns-then-rests_on_nothing-clause-union : goal.returns-then-rests_on_nothing-clause-union
returns-then-rests_on_nothing-clause-union c =
    union_none (union_so_far c.args.assumptions.now)
    ∙ ap (union (union_so_far c.args.assumptions.now)) (sym (c.rests_on_nothing.ensures c.if-rests_on_nothing.true))
