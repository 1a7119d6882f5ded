-- What finite bounds ask of a constraint and of the best value.
use Rattle.std.proofs.Common.{arith, ◌≡◌, ◌≢◌, List, [], ◌∷◌, ◌++◌, Option, Some, None, IfSome}
use Rattle.std.proofs.Common.{Contains, option_map, sym, ap, subst, inl, inr, rules}
use Rattle.std.proofs.lemmas.List.Elements.{All-contains}
use Rattle.std.specs.Prelude.{◌↔◌}
use Rattle.vipr_spec.specs.Constraint.{Profile, two, Condition, Row, at, Dominates, IsWholeRow}
use Rattle.vipr_spec.specs.Certificate.{Named, Problem, Claim, infeasible, range, objective_at}
use Rattle.vipr_spec.specs.Certificate.{objective_constraint, stays, IsAsGood, dual_bound}
use Rattle.vipr_spec.specs.Certificate.{MeetsBound, MeetsPrimal}
use Rattle.vipr_spec.specs.{Fraction.ℚ, Soundness.IsBestValue, Tests.finite_primal}
use Rattle.vipr_spec.proofs.Laws.{as_good_trans, best_first}
use Rattle.vipr_linear.specs.{Constraint.condition_of, declared.constraint.Constraint.Constraint}
use Rattle.vipr_rules.specs.declared.claim.Target.{Target}
use Rattle.vipr_rules.specs.declared.claim.Target.TheVariants.{Bound, WholeBound, Nothing}
use Rattle.vipr_rules.specs.Claim.{MeetsWhole, IsMetBy, target_bound, IsTargetIn}

pub the_first : (p : Problem) (ss : List (Named Row)) (s : Named Row) → IsBestValue p ss None
    → IsBestValue p (ss ++ s ∷ []) (Some (objective_at p (at s.item)))
the_first p ss s none =
    subst (λ (l : List (Named Row)). IsBestValue p (l ++ s ∷ [])
    (Some (objective_at p (at s.item)))) (sym none) (best_first p s)

module _ (p : Problem) (lower upper : Option ℚ) (bound : ℚ) (is : range lower upper ≡ p.claim) where
  abbrev goal : Condition
  goal = objective_constraint p (stays p.direction) bound

  plain : (P : Profile) → ¬ ((P ≡ two) × IsWholeRow p.integers (at p.objective)) → (d : Condition)
      → Dominates d goal ↔ MeetsBound P p d bound
  plain P apart d = grind arith

  target_in : (P : Profile) (t : Target) → Some bound ≡ dual_bound p.direction lower upper
      → t ≢ Nothing → target_bound t ≡ Some goal
      → ((d : Condition) → IsMetBy t d ↔ MeetsBound P p d bound) → IsTargetIn P p t
  target_in P t dual some says met = search (rules, option_map)

  pub bound_is_target : (P : Profile) (x : Constraint)
      → Some bound ≡ dual_bound p.direction lower upper
      → condition_of x ≡ objective_constraint p (stays p.direction) bound
      → ¬ ((P ≡ two) × IsWholeRow p.integers (at p.objective)) → IsTargetIn P p (Bound x)
  bound_is_target P x dual says apart = target_in P (Bound x) dual (λ e. absurd cc) (ap Some says)
      (λ d. subst (λ y. Dominates d y ↔ MeetsBound P p d bound) (sym says) (plain P apart d))

  pub whole_bound_is_target : (P : Profile) (x : Constraint)
      → Some bound ≡ dual_bound p.direction lower upper
      → condition_of x ≡ objective_constraint p (stays p.direction) bound
      → (P ≡ two) × IsWholeRow p.integers (at p.objective) → IsTargetIn P p (WholeBound x)
  whole_bound_is_target P x dual says may = target_in P (WholeBound x) dual (λ e. absurd cc)
      (ap Some says) (λ d. subst (λ y. MeetsWhole y d ↔ MeetsBound P p d bound) (sym says) (
      subst (λ Q. MeetsWhole goal d ↔ MeetsBound Q p d bound) (sym may.0) (
        λ h. elim h [ inl k ↦ inl k | inr k ↦ inr (may.1, k.0, k.1) ],
        λ h. elim h [ inl k ↦ inl k | inr k ↦ inr (k.1, k.2) ],
      )))

-- ---- the primal bound

abbrev MeetsPrimalBound : Problem → List (Named Row) → ℚ → Type 0
MeetsPrimalBound p ss v = (s : Named Row) × Contains ss s × IsAsGood p.direction (objective_at p (at s.item)) v

pub best_decides : (p : Problem) (ss : List (Named Row)) (best bound : ℚ)
    → IsBestValue p ss (Some best) → (k : Claim) → Some bound ≡ finite_primal p k
    → IsAsGood p.direction best bound ↔ MeetsPrimal p ss k
best_decides p ss best bound b infeasible e = absurd cc
best_decides p ss best bound b (range lower upper) e =
    subst (λ o. IsAsGood p.direction best bound ↔ IfSome o (MeetsPrimalBound p ss)) e (
      λ h. (b.0.0, b.0.1, subst (λ w. IsAsGood p.direction w bound) (sym b.0.2) h),
      λ m. as_good_trans p.direction _ _ _
          (All-contains (λ (s : Named Row). IsAsGood p.direction best (objective_at p (at s.item))) ss
          m.0 b.1 m.1) m.2,
    )
