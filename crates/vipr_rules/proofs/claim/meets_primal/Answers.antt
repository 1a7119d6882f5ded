use Rattle.std.proofs.Common.{option_copied, ap, subst}
use Rattle.vipr_spec.specs.Soundness.{IsBestValue}
use Rattle.vipr_rules.proofs.ClaimLemmas.{best_decides}
use Rattle.vipr_rules.proofs.claim.meets_primal.Goals as goal

pub returns : goal.returns
returns c = λ ss best.
    let value = subst (IsBestValue c.args.p.now ss) (ap option_copied c.in-Some-best.is) best in
    let decides = best_decides c.args.p.now ss c.in-Some-best.value.now c.in-Some.bound value
    c.args.p.now.claim c.in-Some.ensures in
    (λ t. decides.0 (c.is_as_good.ensures.0 t), λ m. c.is_as_good.ensures.1 (decides.1 m))
