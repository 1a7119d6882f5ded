use Rattle.std.proofs.Common.{◌≡◌, List}
use Rattle.vipr_spec.specs.Constraint.{Constraint as Meant}
use Rattle.vipr_rules.specs.Columns.{nth, AreColumns}
use Rattle.vipr_rules.proofs.ColumnLemmas.{AreHalf}
use Rattle.vipr_rules.proofs.columns.add_row.Given as goal

abbrev pub invariant-loop-place : goal.invariant-loop-place
invariant-loop-place l = (cs : List Meant) → (nth cs l.index).row ≡ l.row
    → AreColumns l.objective cs l.index l.initial.columns
    → AreHalf l.objective cs l.index l.entry-items l.place l.columns
