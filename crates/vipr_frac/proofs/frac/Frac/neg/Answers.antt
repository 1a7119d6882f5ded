use Rattle.std.proofs.Common.{ap, ap₂, ◌∙◌}
use Rattle.vipr_spec.specs.Fraction.{over, neg_ℚ}
use Rattle.vipr_frac.proofs.Views.{negated-word, over-negated, over-self}
use Rattle.vipr_frac.proofs.frac.Frac.neg.Goals as goal

pub returns : goal.returns
returns c =
    c.of_parts.ensures
    ∙ ap (λ z. over z c.parts-p.result.1)
    (negated-word c.parts-p.result.0 c.parts-p.ensures.reduced.numer_bounded)
    ∙ over-negated _ _ c.parts-p.ensures.reduced.lowest.positive
    ∙ ap neg_ℚ (ap₂ over c.parts-p.ensures.numer c.parts-p.ensures.denom ∙ over-self c.args.self)
