-- What the tests of the reason `sol` say of the best value.
use Rattle.std.proofs.Common.{◌≡◌, ◌<◌, length, List, [], Some, None, All, refl, sym, ap, ap₂}
use Rattle.std.proofs.Common.{◌∙◌, subst, inl, inr, arith}
use Rattle.std.specs.Prelude.{◌⊎◌, Result, Ok, MatchResult}
use Rattle.std.specs.{FinSet.FinSet, Ordering.nat_cmp, Result.result_and}
use Rattle.vipr_spec.specs.Constraint.{Profile, Row, at, Condition, condition, Dominates, Compares}
use Rattle.vipr_spec.specs.Certificate.{Named, Certificate, Derivation, Direction}
use Rattle.vipr_spec.specs.Certificate.{objective_at, objective_constraint, reaches, IsAsGood, sol}
use Rattle.vipr_spec.specs.Steps.{listed, by_cutoff, step_tests, nothing, compared}
use Rattle.vipr_spec.specs.{Fraction.ℚ, Soundness.IsBestValue}
use Rattle.vipr_spec.proofs.Laws.{cuts_off}
use Rattle.vipr_linear.specs.{Constraint.condition_of, declared.constraint.Constraint.Constraint}
use Rattle.vipr_rules.specs.declared.error.RuleError.TheVariants.{NoSolution, Memory}
use Rattle.vipr_rules.specs.Apply.{StopsIn, PassesTestsIn, IsNotDominated, IsRuledBy}
use Rattle.vipr_rules.specs.{Context.IsSetByReason, declared.error.RuleError.RuleError}

none_below : (ss : List (Named Row)) → ss ≡ [] → ¬ (0 < length ss)
none_below ss e h = let n = ap length e in omega (arith, n)

pub none_listed : (P : Profile) (c : Certificate) (d : Derivation)
    → IsBestValue c.problem c.solutions None → StopsIn P c d (step_tests sol) NoSolution
none_listed P c d none = (listed, inr (none_below c.solutions none, refl), (nothing, refl, refl))

module _ (P : Profile) (c : Certificate) (d : Derivation) (best : ℚ)
    (is : IsBestValue c.problem c.solutions (Some best)) where
  some_listed : 0 < length c.solutions
  some_listed = let h = is.0.1.1 in omega arith

  abbrev bound : Condition
  bound = objective_constraint c.problem (reaches c.problem.direction) best

  module _ (computed stated : Constraint) (same : condition_of computed ≡ bound)
      (says : condition_of stated ≡ condition d.stated) where
    pub cut_passes : Dominates (condition_of computed) (condition_of stated) → PassesTestsIn P c d (step_tests sol)
    cut_passes h =
        inl (
          some_listed,
          inl (
            (cuts_off c (Some best) (condition d.stated) is).1
                (subst (Dominates bound) says (subst (λ x. Dominates x (condition_of stated)) same h)),
            refl,
          ),
        )

    pub cut_not_dominated : (e : RuleError) → IsNotDominated computed stated e → StopsIn P c d (step_tests sol) e
    cut_not_dominated e (this, bad) = (
      by_cutoff,
      inl (
        some_listed,
        inr (
          (λ v. bad
              (subst (λ x. Dominates x (condition_of stated)) (sym same)
              (subst (Dominates bound) (sym says)
              ((cuts_off c (Some best) (condition d.stated) is).0 v)))),
          refl,
        ),
      ),
      (
        compared (condition_of computed) (condition_of stated),
        this,
        (
          is.0.0,
          (
            is.0.1,
            subst
                (λ w. All (λ t. IsAsGood c.problem.direction w (objective_at c.problem (at t.item)))
                c.solutions) (sym is.0.2) is.1,
          ),
          ap₂ compared (same ∙ ap (objective_constraint c.problem (reaches c.problem.direction)) (sym is.0.2)) says,
        ),
      ),
    )

    pub cut_ruled : (r : Result (Unit {0}) RuleError) (s : FinSet nat_cmp)
        → MatchResult r (λ _. Dominates (condition_of computed) (condition_of stated))
        (λ e. (e ≡ Memory) ⊎ IsNotDominated computed stated e)
        → IsSetByReason c sol s → IsRuledBy P c d sol (result_and r (Ok s))
    cut_ruled r s h rests = grind (arith, cut_passes, cut_not_dominated)

-- a value as good as the bound
pub reached : (d : Direction) (v w : ℚ) → IsAsGood d v w → Compares (reaches d) v w
reached d v w h = grind arith
