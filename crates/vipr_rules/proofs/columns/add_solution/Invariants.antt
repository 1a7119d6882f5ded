use Rattle.std.proofs.Common.{◌≡◌, length}
use Rattle.vipr_spec.specs.Constraint.{Row, at}
use Rattle.vipr_rules.specs.Columns.{given_of, AreColumns, AreSums}
use Rattle.vipr_rules.proofs.ColumnLemmas.{Summed}
use Rattle.vipr_rules.proofs.columns.add_solution.Given as goal

abbrev pub invariant-loop-variable : goal.invariant-loop-variable
invariant-loop-variable l = record {
  sums : (o : Row) → AreColumns o (given_of l.cons) (length l.initial.sums) l.columns
      → AreSums o (given_of l.cons) (at l.solution.0) 0 l.initial.sums
      → Summed o (given_of l.cons) l.solution.0 (length l.columns) l.variable-items l.variable-index
      l.sums;
  constraints : length l.sums ≡ length l.initial.sums;
}
