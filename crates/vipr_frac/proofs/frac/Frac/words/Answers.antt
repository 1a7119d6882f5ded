use Rattle.vipr_frac.proofs.{Unreduced.some_words, Views.facts_of, Views.Facts}
use Rattle.vipr_frac.proofs.frac.Frac.words.Goals as goal

pub returns : goal.returns
returns c =
    let a : Facts c.args.self c.parts-p.result.0 c.parts-p.result.1 =
    facts_of _ _ _ c.parts-p.ensures.numer c.parts-p.ensures.denom c.parts-p.ensures.reduced in
    let h = some_words c.args.self _ _ c.words.result a.back a.denom c.words.ensures in
    record { numer = h.0; denom = h.1; small = h.2 }
