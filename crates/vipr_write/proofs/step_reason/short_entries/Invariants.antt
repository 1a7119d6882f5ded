use Rattle.std.proofs.Common.{◌≡◌, map, take}
use Rattle.vipr_write.specs.StepReasons.{entry_of, AreShort}
use Rattle.vipr_write.proofs.step_reason.short_entries.Given as goal

abbrev pub invariant-loop-index : goal.invariant-loop-index
invariant-loop-index l = record {
  entries : map entry_of l.short.items ≡ take l.index-index l.entries;
  are_short : AreShort (take l.index-index l.entries);
}
