use Rattle.std.proofs.Common.{refl}
use Rattle.vipr_bytes.proofs.Handing.{sends_handed, sends_none}
use Rattle.vipr_bytes.proofs.sink_buffer.SinkBuffer.flush.Goals as goal

pub returns-then-self-clause-text : goal.returns-then-self-clause-text
returns-then-self-clause-text g c = sends_none c.args.self.now _ c.if-self.true refl refl

pub returns-clause-text : goal.returns-clause-text
returns-clause-text g c = sends_handed c.args.self.now _ c.deref.result.now c.if-self.false
    c.deref.ensures.value c.hand-accepted.ensures c.clear-2.ensures.items
