use Rattle.std.proofs.Common.{◌∙◌, ap, length, replicate, false}
use Rattle.vipr_spec.specs.{Constraint.equal, Fraction.zero_ℚ}
use Rattle.vipr_linear.specs.Accumulator.{Accumulator}
use Rattle.vipr_linear.proofs.combination.Combination.clear.Goals as goal

pub returns : goal.returns
returns c =
    let sums = c.reset.ensures ∙ ap (λ (a : Accumulator). replicate (length a.sums) zero_ℚ) c.self.view_is in
    let bound = c.zero-self-inside.ensures in
    λ i. record { sums = sums i; bound = bound i; sense = equal; spent = false }
