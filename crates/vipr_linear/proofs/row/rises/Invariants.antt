use Rattle.std.proofs.Common.{ℕ, ◌+◌, ◌<◌, get_or}
use Rattle.vipr_linear.specs.Row.{variables_of}
use Rattle.vipr_linear.proofs.row.rises.Given as goal

abbrev pub invariant-loop-i : goal.invariant-loop-i
invariant-loop-i l = (k : ℕ) → k + 1 < l.i → get_or (variables_of l.pairs) k 0 < get_or (variables_of l.pairs) (k + 1) 0
