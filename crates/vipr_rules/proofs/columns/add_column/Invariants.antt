use Rattle.std.proofs.Common.{◌≡◌, ℕ, length}
use Rattle.vipr_spec.specs.Constraint.{Row, Point}
use Rattle.vipr_rules.specs.Columns.{given_of, ArePlaces, AreSums}
use Rattle.vipr_rules.proofs.ColumnLemmas.{AreHalfSums}
use Rattle.vipr_rules.proofs.columns.add_column.Given as goal

abbrev pub invariant-loop-entry : goal.invariant-loop-entry
invariant-loop-entry l = record {
  sums : (o : Row) (j : ℕ) (x : Point)
      → ArePlaces o (given_of l.cons) (length l.initial.sums) j l.places → x j ≡ l.coordinate
      → AreSums o (given_of l.cons) x j l.initial.sums
      → AreHalfSums o (given_of l.cons) x j l.places l.entry-index l.sums;
  constraints : length l.sums ≡ length l.initial.sums;
}
