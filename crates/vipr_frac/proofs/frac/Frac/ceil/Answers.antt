use Rattle.std.proofs.Common.{sym, subst}
use Rattle.vipr_spec.specs.{Fraction.neg_ℚ, FractionOrder.IsFloor, FractionOrder.IsCeil}
use Rattle.vipr_frac.proofs.{Rounding.IsCeil-negated, Views.negated-word}
use Rattle.vipr_frac.proofs.frac.Frac.ceil.Goals as goal

pub returns-clause-ceil : goal.returns-clause-ceil
returns-clause-ceil c =
    let below : IsFloor (neg_ℚ c.args.self) c.floor.result =
    subst (λ x. IsFloor x c.floor.result) c.neg.ensures c.floor.ensures.floor in
    subst (λ k. IsCeil c.args.self k) (sym (negated-word c.floor.result c.floor.ensures.bounded))
    (IsCeil-negated c.args.self c.floor.result below)
