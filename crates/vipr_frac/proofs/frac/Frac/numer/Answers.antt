use Rattle.vipr_frac.proofs.Views.{facts_of, Facts}
use Rattle.vipr_frac.proofs.frac.Frac.numer.Goals as goal

pub returns : goal.returns
returns c =
    let f : Facts c.args.self c.parts.result.0 c.parts.result.1 =
    facts_of _ _ _ c.parts.ensures.numer c.parts.ensures.denom c.parts.ensures.reduced in
    record { value = f.back; bounded = f.bounded }
