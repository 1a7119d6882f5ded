use Rattle.std.proofs.Common.{◌≡◌, ◌≤◌, length, map, take, drop}
use Rattle.vipr_tighten.specs.Passes.{NameEarlier}
use Rattle.vipr_tighten.proofs.Renumbering.{SoFar}
use Rattle.vipr_tighten.proofs.renumber.renumber.Given as goal

abbrev pub invariant-loop-place : goal.invariant-loop-place
invariant-loop-place g l = record {
  size : length l.steps.items ≡ length l.fn.steps.items;
  place : length l.table.items ≡ l.place;
  behind : l.kept ≤ l.place;
  left : drop l.place l.steps.items ≡ drop l.place l.fn.steps.items;
  so_far : (view : g.D.Tightenable.View) → NameEarlier l.first (map (g.D.Tightenable.derived view) l.fn.steps.items)
      → SoFar l.first l.marks (map (g.D.Tightenable.derived view) l.fn.steps.items) l.table.items
      (map (g.D.Tightenable.derived view) (take l.kept l.steps.items));
}
