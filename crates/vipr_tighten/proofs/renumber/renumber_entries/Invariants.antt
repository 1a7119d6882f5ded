use Rattle.std.proofs.Common.{map}
use Rattle.vipr_tighten.proofs.Entries.{EntriesSoFar}
use Rattle.vipr_tighten.proofs.renumber.renumber_entries.Given as goal

abbrev pub invariant-loop-i : goal.invariant-loop-i
invariant-loop-i g l = EntriesSoFar l.first l.table (map g.E.SumEntry.pair l.initial.entries.items)
    l.i (map g.E.SumEntry.pair l.entries.items)
