use Rattle.vipr_frac.proofs.Views.{facts_of, Facts}
use Rattle.std.proofs.Common.{◌∙◌}
use Rattle.vipr_frac.proofs.frac.FracOrd.cmp.Goals as goal

pub returns : goal.returns
returns c =
    let a : Facts c.args.self.now c.parts-p.result.0 c.parts-p.result.1 =
    facts_of _ _ _ c.parts-p.ensures.numer c.parts-p.ensures.denom c.parts-p.ensures.reduced in
    let b : Facts c.args.other.now c.parts-r.result.0 c.parts-r.result.1 =
    facts_of _ _ _ c.parts-r.ensures.numer c.parts-r.ensures.denom c.parts-r.ensures.reduced in
    c.compare_fractions.ensures ∙ rw (a.back, b.back, a.denom, b.denom)
