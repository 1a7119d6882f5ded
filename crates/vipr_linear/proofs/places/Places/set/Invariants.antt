use Rattle.std.proofs.Common.{◌≡◌, drop}
use Rattle.vipr_linear.specs.Values.{with_set}
use Rattle.vipr_linear.proofs.places.Places.set.Given as goal

abbrev pub invariant-loop-variable : goal.invariant-loop-variable
invariant-loop-variable l = with_set l.self (drop l.variable-index l.entries) ≡ with_set l.initial.self l.entries
