use Rattle.std.proofs.Common.{◌≡◌, ◌≤◌, ◌+◌, ◌-◌, ℕ, min, drop, length}
use Rattle.vipr_spec.specs.{Digits.natural_of, Digits.natural_after, Fraction.most}
use Rattle.vipr_frac.proofs.number.long_natural.Given as goal

abbrev pub invariant-loop-from : goal.invariant-loop-from
invariant-loop-from l = record {
  within : l.from ≤ length l.s;
  exact : (n : ℕ) × (l.value ≡ min (most + 1) n) × (natural_after n (drop l.from l.s) ≡ natural_of l.s);
}

abbrev pub decreases-loop-from : goal.decreases-loop-from
decreases-loop-from l = length l.s - l.from

abbrev pub invariant-loop-i : goal.invariant-loop-i
invariant-loop-i l = (n : ℕ) × (l.value ≡ min (most + 1) n) × (natural_after n (drop l.i l.s) ≡ natural_of l.s)
