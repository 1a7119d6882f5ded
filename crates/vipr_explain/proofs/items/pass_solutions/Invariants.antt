use Rattle.std.proofs.Common.{◌≡◌, ◌+◌}
use Rattle.vipr_explain.proofs.items.pass_solutions.Given as goal

abbrev pub invariant-loop : goal.invariant-loop
invariant-loop l = l.solutions.left + l.counter ≡ l.initial.solutions.left
