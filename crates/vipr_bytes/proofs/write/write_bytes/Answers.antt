use Rattle.std.proofs.{Common.arith, lemmas.List.length-drop}
use Rattle.vipr_bytes.proofs.Handed.{more_handed, none_failed}
use Rattle.vipr_bytes.proofs.write.write_bytes.Goals as goal

pub loop-accepted-preserved : goal.loop-accepted-preserved
loop-accepted-preserved g c = record {
  within = omega (arith, c.in-Ok.ensures.count, length-drop c.loop-accepted.accepted c.args.bytes.now);
  known = more_handed (g.W.Sink.output c.args.sink.now) (g.W.Sink.output c.loop-accepted.sink)
      (g.W.Sink.output c.write.new.self) c.args.bytes.now c.loop-accepted.accepted c.in-Ok.n
      c.loop-accepted.invariant.known c.in-Ok.ensures.accepted;
  failures = none_failed (g.W.Sink.failures c.args.sink.now)
      (g.W.Sink.failures c.loop-accepted.sink) (g.W.Sink.failures c.write.new.self) c.in-Ok.n
      c.if-n-gt0.true c.loop-accepted.invariant.failures c.in-Ok.ensures.failed;
}
