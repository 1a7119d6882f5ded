use Rattle.std.proofs.Common.{◌≡◌, length}
use Rattle.vipr_rules.proofs.columns.entry_counts.Given as goal

abbrev pub invariant-loop-variable : goal.invariant-loop-variable
invariant-loop-variable l = length l.counts.items ≡ l.variables

abbrev pub invariant-loop-named : goal.invariant-loop-named
invariant-loop-named l = length l.counts.items ≡ l.variables
