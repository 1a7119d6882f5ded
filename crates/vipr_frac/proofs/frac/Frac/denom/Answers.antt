use Rattle.std.proofs.Common.{ap, pos, ◌∙◌}
use Rattle.vipr_frac.proofs.Views.{facts_of, Facts, as-is}
use Rattle.vipr_frac.proofs.frac.Frac.denom.Goals as goal

pub returns : goal.returns
returns c =
    let f : Facts c.args.self c.parts.result.0 c.parts.result.1 =
    facts_of _ _ _ c.parts.ensures.numer c.parts.ensures.denom c.parts.ensures.reduced in
    record {
      value = as-is (pos c.parts.result.1) c.parts.ensures.reduced.denom_bounded
          ∙ ap pos f.denom;
      bounded = f.bounded;
    }
