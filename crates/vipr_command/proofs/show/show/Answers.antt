use Rattle.vipr_command.specs.Show.{Kind, ShowsText}
use Rattle.vipr_command.proofs.ShowLemmas.{shown_by, spelled_by, none_spelled, never_unread}
use Rattle.vipr_command.proofs.show.show.Goals.{After-write_text}
use Rattle.vipr_command.proofs.{InputLemmas.of_input, show.show.Given.Over}
use Rattle.vipr_command.proofs.show.show.Goals as goal

-- the certificate that was read is shown, as one of each kind that it is of
shown : (g : Over) (c : After-write_text g) (k : Kind) → k.Spelled c.in-Ok.ensures.0
    → ShowsText c.args.form k (g.W.Sink.output c.args.writer.now)
    (g.W.Sink.output c.write_text.new.writer) c.write_text.result
shown g c = shown_by c.args.form (g.W.Sink.output c.args.writer.now)
    (g.W.Sink.output c.write_text.new.writer) c.in-Ok.text.bytes c.in-Ok.ensures.0
    c.write_text.result c.in-Ok.ensures.1 c.write_text.ensures.text

pub returns-in-Ok-clause-exact : goal.returns-in-Ok-clause-exact
returns-in-Ok-clause-exact g c =
    let kinds = shown g (goal.at.returns-in-Ok-clause-exact g c).After-write_text in
    of_input (g.R.Source.input c.args.source) (λ k. k.kind.Spelled c.in-Ok.ensures.0)
    (λ k. ShowsText c.args.form k.kind (g.W.Sink.output c.args.writer.now)
    (g.W.Sink.output c.write_text.new.writer) c.write_text.result)
    (λ k. kinds k.kind) (tt, c.in-Ok.ensures.2)

pub returns-in-Ok-clause-spelled : goal.returns-in-Ok-clause-spelled
returns-in-Ok-clause-spelled g c =
    spelled_by c.args.form (g.W.Sink.output c.args.writer.now)
    (g.W.Sink.output c.write_text.new.writer) (g.R.Source.input c.args.source) c.in-Ok.ensures.0
    c.write_text.result
    (shown g (goal.at.returns-in-Ok-clause-spelled g c).After-write_text) c.in-Ok.ensures.2

pub returns-in-Err-Refused-clause-spelled : goal.returns-in-Err-Refused-clause-spelled
returns-in-Err-Refused-clause-spelled g c =
    let refusal = rw c.in-Err-Refused.field-0-is at c.in-Err-Refused.ensures in
    none_spelled c.args.form (g.W.Sink.output c.args.writer.now) (g.R.Source.input c.args.source)
    c.in-Err-Refused.cause c.in-Err-Refused.offset refusal.1

pub returns-in-Err-Read-clause-spelled : goal.returns-in-Err-Read-clause-spelled
returns-in-Err-Read-clause-spelled g c =
    never_unread c.args.form (g.W.Sink.output c.args.writer.now) (g.R.Source.input c.args.source)
    c.in-Err-Read.field-0 c.in-Err-Read.field-0-is c.in-Err-Read.ensures.1
