use Rattle.std.proofs.Common.{◌++◌, ◌∷◌, [], Some, sym, subst, inl, inr}
use Rattle.vipr_spec.specs.{Certificate.IsAsGood, Soundness.IsBestValue}
use Rattle.vipr_spec.proofs.Laws.{as_good_total, best_stays, best_moves}
use Rattle.vipr_rules.proofs.ClaimLemmas.{the_first}
use Rattle.vipr_rules.proofs.claim.better.Goals as goal

pub returns-in_default : goal.returns-in_default
returns-in_default c = λ ss s best says.
    let p = c.args.p.now in
    subst (λ v. IsBestValue p (ss ++ s ∷ []) (Some v)) (sym says)
    (the_first p ss s (subst (IsBestValue p ss) c.in_default.is best))

pub returns-then-is_as_good : goal.returns-then-is_as_good
returns-then-is_as_good c = λ ss s best says.
    let p = c.args.p.now in
    best_stays p ss s c.in-Some.found (subst (IsBestValue p ss) c.in-Some.is best)
    (subst (IsAsGood p.direction c.in-Some.found) says
    (c.is_as_good.ensures.0 c.if-is_as_good.true))

pub returns-else-is_as_good : goal.returns-else-is_as_good
returns-else-is_as_good c = λ ss s best says.
    let p = c.args.p.now in
    let found = subst (IsBestValue p ss) c.in-Some.is best in
    elim (as_good_total p.direction c.args.value c.in-Some.found) [
      | inl h ↦ subst (λ v. IsBestValue p (ss ++ s ∷ []) (Some v)) (sym says)
          (best_moves p ss s c.in-Some.found found
          (subst (λ v. IsAsGood p.direction v c.in-Some.found) says h))
      | inr h ↦ let t = c.is_as_good.ensures.1 h in absurd (let f = c.if-is_as_good.false in cc)
    ]
