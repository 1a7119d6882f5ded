use Rattle.std.proofs.Common.{◌≡◌, length}
use Rattle.vipr_explain.proofs.sought.less_sum.Given as goal

abbrev pub invariant-loop-entry : goal.invariant-loop-entry
invariant-loop-entry l = length l.scratch.sums ≡ length l.initial.scratch.sums
