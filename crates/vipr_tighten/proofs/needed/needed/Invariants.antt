use Rattle.std.proofs.Common.{◌≡◌, map, length}
use Rattle.vipr_tighten.proofs.Marking.{AreMarksFrom}
use Rattle.vipr_tighten.proofs.needed.needed.Given as goal

abbrev pub invariant-loop-i : goal.invariant-loop-i
invariant-loop-i g l =
    (length l.marks.items ≡ length l.steps)
    × ((view : g.D.Tightenable.View)
    → AreMarksFrom l.fn.goal l.first (map (g.D.Tightenable.derived view) l.steps) l.i
    l.marks.items)
