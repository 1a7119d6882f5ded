use Rattle.std.proofs.Common.{◌≡◌, ◌<◌, ◌≤◌, ◌^◌, ℕ, drop, take, get_or, true}
use Rattle.vipr_spec.specs.Digits.{natural_after, is_digit}
use Rattle.vipr_frac.proofs.number.front_natural.Given as goal

abbrev pub invariant-loop-i : goal.invariant-loop-i
invariant-loop-i l = record {
  small : l.value < 10 ^ l.i;
  digits : (k : ℕ) → k < l.i → is_digit (get_or l.s k 0) ≡ true;
  value : (j : ℕ) → l.i ≤ j → natural_after l.value (drop l.i (take j l.s)) ≡ natural_after 0 (take j l.s);
}
