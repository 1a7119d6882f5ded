use Rattle.std.proofs.Common.{rules}
use Rattle.vipr_bytes.specs.Hands.{start_of}
use Rattle.vipr_bytes.proofs.Laws.{put_and_finished}
use Rattle.vipr_write.specs.Folded.{full}
use Rattle.vipr_write.proofs.folded.write_full.Goals as goal

pub returns : goal.returns
returns g c = λ short.
    let start = start_of g.W.Sink.output g.W.Sink.failures c.args.sink.now in
    let text = full c.args.folded.now in
    put_and_finished _ c.put_full.new.out c.finish.new.self text _ start c.finish.result
    c.put_full.ensures (c.requires.nothing start) c.finish.ensures.sink
    (c.finish.ensures.end start text short) (search rules)
