use Rattle.std.proofs.Common.{◌≡◌, ◌%◌, ◌+◌}
use Rattle.vipr_spec.specs.Gcd.{gcd}
use Rattle.vipr_frac.proofs.gcd.wide_gcd.Given as goal

abbrev pub invariant-loop-y : goal.invariant-loop-y
invariant-loop-y l = (l.x % 2 ≡ 1) × (gcd l.x l.y ≡ gcd l.initial.x l.fn.a)

abbrev pub decreases-loop-y : goal.decreases-loop-y
decreases-loop-y l = l.x + l.y
