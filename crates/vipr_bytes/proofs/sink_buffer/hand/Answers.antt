use Rattle.vipr_bytes.proofs.Handing.{hands_all, hands_front}
use Rattle.vipr_bytes.proofs.sink_buffer.hand.Goals as goal

pub returns-in-Ok : goal.returns-in-Ok
returns-in-Ok g c = hands_all g.W.Sink.output g.W.Sink.failures c.args.sink.now
    c.write_bytes.new.sink c.args.before c.saturating_add.result c.args.bytes.now
    c.saturating_add.ensures c.in-Ok.ensures.output c.in-Ok.ensures.failures

pub returns-in-Err : goal.returns-in-Err
returns-in-Err g c = hands_front g.W.Sink.output g.W.Sink.failures c.args.sink.now
    c.write_bytes.new.sink c.args.before c.saturating_add-in-Err.result c.args.bytes.now
    c.in-Err.error c.saturating_add-in-Err.ensures c.in-Err.ensures.output c.in-Err.ensures.part
    c.in-Err.ensures.failures
