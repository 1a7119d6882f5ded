use Rattle.vipr_bytes.proofs.Handing.{sends_long}
use Rattle.vipr_bytes.proofs.sink_buffer.SinkBuffer.send.Goals as goal

pub returns : goal.returns
returns g c = sends_long c.args.self.now _ c.args.bytes.now c.if-self.false c.requires
    c.hand-accepted.ensures c.requires
