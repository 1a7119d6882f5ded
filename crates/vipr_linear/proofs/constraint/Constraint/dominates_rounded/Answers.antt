use Rattle.vipr_linear.proofs.Roundings.{rounded_with}
use Rattle.vipr_linear.proofs.constraint.Constraint.dominates_rounded.Goals as goal

pub returns-in-Some : goal.returns-in-Some
returns-in-Some c =
    let says = rounded_with c.args.self.now c.in-Some.rhs _ c.in-Some.ensures in
    (λ t. says.0 (c.dominates_with.ensures.0 t), λ h. c.dominates_with.ensures.1 (says.1 h))
