use Rattle.std.proofs.Common.{rules}
use Rattle.vipr_bytes.specs.Hands.{start_of}
use Rattle.vipr_bytes.proofs.Laws.{put_and_finished}
use Rattle.vipr_write.specs.Forms.{text_in}
use Rattle.vipr_write.proofs.write.write_text.Goals as goal

pub returns : goal.returns
returns g c =
    let start = start_of g.W.Sink.output g.W.Sink.failures c.args.sink.now in
    let text = text_in c.args.form c.args.certificate.now in
    put_and_finished _ c.put_certificate.new.out c.finish.new.self text _ start c.finish.result
    c.put_certificate.ensures (c.requires.nothing start) c.finish.ensures.sink
    (c.finish.ensures.end start text c.requires.short) (search rules)
