use Rattle.std.proofs.Common.{◌≡◌, ◌-◌, ◌≤◌, length, Some, IfSome}
use Rattle.vipr_bytes.proofs.Handed.{TookFirst}
use Rattle.vipr_bytes.proofs.write.write_bytes.Given as goal

abbrev pub invariant-loop-accepted : goal.invariant-loop-accepted
invariant-loop-accepted g l = record {
  within : l.accepted ≤ length l.bytes;
  known : IfSome (g.W.Sink.output l.initial.sink) (TookFirst l.accepted l.bytes (g.W.Sink.output l.sink));
  failures : IfSome (g.W.Sink.failures l.initial.sink) (λ n. g.W.Sink.failures l.sink ≡ Some n);
}

abbrev pub decreases-loop-accepted : goal.decreases-loop-accepted
decreases-loop-accepted g l = length l.bytes - l.accepted
