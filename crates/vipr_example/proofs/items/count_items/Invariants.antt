use Rattle.std.proofs.Common.{◌≡◌, false}
use Rattle.vipr_example.proofs.items.count_items.Given as goal

abbrev pub invariant-loop-solutions : goal.invariant-loop-solutions
invariant-loop-solutions l = l.solutions.failed ≡ false

abbrev pub decreases-loop-solutions : goal.decreases-loop-solutions
decreases-loop-solutions l = l.solutions.left

abbrev pub invariant-loop-derivations : goal.invariant-loop-derivations
invariant-loop-derivations l = l.derivations.failed ≡ false

abbrev pub decreases-loop-derivations : goal.decreases-loop-derivations
decreases-loop-derivations l = l.derivations.left
