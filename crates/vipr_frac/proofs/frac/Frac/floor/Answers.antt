use Rattle.std.proofs.Common.{◌≡◌, ◌∙◌, pos, sym, subst, to_z, of_z}
use Rattle.std.proofs.{lemmas.Int.to_z-of_z}
use Rattle.std.specs.Int.{w128, int_div_euclid}
use Rattle.vipr_spec.specs.FractionOrder.{IsFloor}
use Rattle.vipr_frac.proofs.Rounding.{IsFloor-quotient}
use Rattle.vipr_frac.proofs.{Views.as-is, frac.Frac.floor.Goals.After-div_euclid}
use Rattle.vipr_frac.proofs.frac.Frac.floor.Goals as goal

result_is : (c : After-div_euclid) → to_z w128 (of_z w128 c.div_euclid.result)
    ≡ int_div_euclid c.args.self.numer (pos c.args.self.denom)
result_is c =
    let bounded = c.numer.ensures.bounded in
    to_z-of_z w128 c.div_euclid.result (record { sfits = c.div_euclid.type_inv })
    ∙ c.div_euclid.ensures
    ∙ rw (
      c.numer.ensures.value,
      c.denom.ensures.value,
      as-is c.args.self.numer bounded.0,
      as-is (pos c.args.self.denom) bounded.1,
    )

pub returns-clause-floor : goal.returns-clause-floor
returns-clause-floor c = subst (λ k. IsFloor c.args.self k) (sym (result_is c)) (IsFloor-quotient c.args.self)
