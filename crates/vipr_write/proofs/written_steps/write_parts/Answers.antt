use Rattle.std.proofs.Common.{rules}
use Rattle.vipr_bytes.specs.Hands.{start_of}
use Rattle.vipr_bytes.proofs.Laws.{put_and_finished, puts_then, puts_same}
use Rattle.vipr_write.specs.Forms.{text_in}
use Rattle.vipr_write.proofs.Kept.{steps_are}
use Rattle.vipr_write.proofs.written_steps.write_parts.Goals as goal

pub returns : goal.returns
returns g c = λ x of short.
    let start = start_of g.W.Sink.output g.W.Sink.failures c.args.sink.now in
    let text = text_in c.args.statements.now.form x in
    let all = puts_same (steps_are x c.args.problem.now c.args.solutions.now c.args.statements.now c.args.steps.now of)
    (puts_then (puts_then c.put_problem.ensures c.put.ensures) c.put_steps.ensures) in
    put_and_finished _ c.put_steps.new.out c.finish.new.self text _ start c.finish.result all
    (c.requires start) c.finish.ensures.sink (c.finish.ensures.end start text short)
    (search rules)
