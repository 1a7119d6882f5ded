use Rattle.std.proofs.Common.{◌≡◌, length}
use Rattle.vipr_explain.proofs.sums.IndexSearch.find.Given as goal

abbrev pub invariant-loop-known : goal.invariant-loop-known
invariant-loop-known l = length l.scratch.sums ≡ length l.initial.scratch.sums
