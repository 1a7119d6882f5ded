use Rattle.std.proofs.Common.{◌+◌, ◌-◌, length}
use Rattle.vipr_table.specs.Merging.{Merging}
use Rattle.vipr_table.proofs.assumptions.merge.merge.Given as goal

abbrev pub invariant-loop-i : goal.invariant-loop-i
invariant-loop-i l = Merging l.xs l.ys l.i l.j l.all.items

abbrev pub decreases-loop-i : goal.decreases-loop-i
decreases-loop-i l = (length l.xs - l.i) + (length l.ys - l.j)
