use Rattle.std.proofs.Common.{◌≡◌, length}
use Rattle.vipr_rules.specs.Columns.{given_of, AreColumns}
use Rattle.vipr_rules.proofs.columns.columns_of.Given as goal

abbrev pub invariant-loop-index : goal.invariant-loop-index
invariant-loop-index l = record {
  columns : AreColumns l.objective (given_of l.cons) l.index l.columns.items;
  variables : length l.columns.items ≡ l.variables;
}
