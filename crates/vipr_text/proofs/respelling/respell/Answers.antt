use Rattle.vipr_text.proofs.SpellingLemmas.{known}
use Rattle.vipr_text.proofs.respelling.respell.Goals as goal

pub returns : goal.returns
returns g c = known c.args.form (λ text. text.bytes) (g.R.Source.input c.args.source)
    c.in_ok-reader.reader c.text_from.result c.in_ok-reader.ensures c.text_from.ensures
