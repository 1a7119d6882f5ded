use Rattle.vipr_rules.specs.Columns.{given_of, AreFalseAtZero}
use Rattle.vipr_rules.proofs.columns.false_at_zero.Given as goal

abbrev pub invariant-loop-index : goal.invariant-loop-index
invariant-loop-index l = AreFalseAtZero l.objective (given_of l.cons) l.index l.indices.items
