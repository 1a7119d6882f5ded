use Rattle.std.proofs.Common.{◌≡◌, length}
use Rattle.vipr_table.specs.Unions.{union_so_far}
use Rattle.vipr_table.proofs.assumptions.union.Union.settle.Given as goal

abbrev pub invariant-loop-top : goal.invariant-loop-top
invariant-loop-top l = record {
  union : union_so_far l.self ≡ union_so_far l.initial.self;
  noted : l.self.noted ≡ l.initial.self.noted;
}

abbrev pub decreases-loop-top : goal.decreases-loop-top
decreases-loop-top l = length l.self.below.items
