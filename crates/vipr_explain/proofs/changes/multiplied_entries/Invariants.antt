use Rattle.std.proofs.Common.{◌≡◌, map, take}
use Rattle.vipr_explain.specs.Changes.{multiplied}
use Rattle.vipr_explain.proofs.changes.multiplied_entries.Given as goal

abbrev pub invariant-loop-position : goal.invariant-loop-position
invariant-loop-position l =
    l.changed.items ≡ map (multiplied l.factor) (take l.position l.entries)
