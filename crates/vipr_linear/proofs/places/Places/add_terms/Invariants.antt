use Rattle.std.proofs.Common.{◌≡◌, drop, length}
use Rattle.std.specs.Prelude.{◌↔◌}
use Rattle.vipr_linear.specs.Accumulator.{with_terms, TermsFitIn}
use Rattle.vipr_linear.proofs.places.Places.add_terms.Given as goal

abbrev pub invariant-loop-entry : goal.invariant-loop-entry
invariant-loop-entry l = record {
  places : length l.self ≡ length l.initial.self;
  fits : TermsFitIn l.initial.self l.multiplier l.entries ↔ TermsFitIn l.self l.multiplier
      (drop l.entry-index l.entries);
  sums : with_terms l.self l.multiplier (drop l.entry-index l.entries) ≡ with_terms l.initial.self
      l.multiplier l.entries;
}
