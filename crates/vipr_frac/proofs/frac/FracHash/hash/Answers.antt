use Rattle.std.proofs.Common.{rules}
use Rattle.vipr_frac.proofs.Views.{facts_of, Facts}
use Rattle.vipr_frac.proofs.frac.FracHash.hash.Goals as goal

pub returns : goal.returns
returns g c =
    let f : Facts c.args.self.now c.parts-p.result.0 c.parts-p.result.1 =
    facts_of _ _ _ c.parts-p.ensures.numer c.parts-p.ensures.denom c.parts-p.ensures.reduced in
    rw (← f.numer, ← f.denom) (search rules)
