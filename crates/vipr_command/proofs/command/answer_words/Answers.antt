use Rattle.std.proofs.Common.{map}
use Rattle.clap.specs.Words.{kind_of}
use Rattle.vipr_command.proofs.RunLemmas.{declined, wrong_words}
use Rattle.vipr_command.proofs.command.answer_words.Goals as goal

pub returns-in-Err-clause-usage : goal.returns-in-Err-clause-usage
returns-in-Err-clause-usage g c =
    wrong_words (map (λ w. w.now) c.args.words.now) (kind_of c.in-Err.error)
    (g.O.Sink.output c.args.out.now) (g.O.Sink.output c.decline.new.out)
    (g.E.Sink.output c.args.err.now) (g.E.Sink.output c.decline.new.err) c.decline.result
    c.in-Err.ensures.err c.decline.ensures

pub returns-in-Err-clause-answered : goal.returns-in-Err-clause-answered
returns-in-Err-clause-answered g c =
    declined (map (λ w. w.now) c.args.words.now) (g.R.Source.input c.args.input) c.in-Err.error
    (g.O.Sink.output c.args.out.now) (g.O.Sink.output c.decline.new.out)
    (g.E.Sink.output c.args.err.now) (g.E.Sink.output c.decline.new.err)
    (g.D.Folder.known c.args.files.now) c.decline.result c.in-Err.ensures.kinds
    c.decline.ensures
