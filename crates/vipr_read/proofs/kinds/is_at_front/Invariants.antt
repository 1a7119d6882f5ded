use Rattle.std.proofs.Common.{◌≡◌, ◌<◌, ℕ, false, get_or}
use Rattle.vipr_spec.specs.Tokens.{is_white}
use Rattle.vipr_read.proofs.kinds.is_at_front.Given as goal

abbrev pub invariant-loop-i : goal.invariant-loop-i
invariant-loop-i l = record {
  same : (k : ℕ) → k < l.i → get_or l.bytes k 0 ≡ get_or l.word k 0;
  solid : (k : ℕ) → k < l.i → is_white (get_or l.bytes k 0) ≡ false;
}
