-- What the tests of a rounded sum say.
use Rattle.std.proofs.Common.{◌≡◌, ℕ, List, [], ◌∷◌, Some, refl, sym, ◌∙◌, ap, subst, inl, inr}
use Rattle.std.specs.Prelude.{◌↔◌, ◌⊎◌}
use Rattle.vipr_spec.specs.Fraction.{ℚ, whole}
use Rattle.vipr_spec.specs.Constraint.{Condition, Profile, at, condition, Ints, sum_of, IsWholeRow}
use Rattle.vipr_spec.specs.Constraint.{Dominates, DominatesRounded, CombinesRounded}
use Rattle.vipr_spec.specs.Certificate.{Certificate, Derivation, entries}
use Rattle.vipr_spec.specs.Causes as cause
use Rattle.vipr_spec.specs.Steps.{PassesStep, roundable, by_rounding, sum, compared, IsSum}
use Rattle.vipr_spec.proofs.Laws.{one_sense}
use Rattle.vipr_linear.specs.Constraint.{sense_of, condition_of}
use Rattle.vipr_linear.specs.declared.rounding.Rounded.TheVariants.{Row}
use Rattle.vipr_linear.specs.{Rounding.IsRounding, declared.constraint.Constraint.Constraint}
use Rattle.vipr_rules.specs.declared.error.RuleError.{RuleError}
use Rattle.vipr_rules.specs.declared.error.RuleError.TheVariants.{Memory}
use Rattle.vipr_rules.specs.Apply.{StopsIn, PassesTestsIn, IsNotDominated, shown_by}

-- x is the sum of the entries, and can be rounded
pub sum_rounded : (P : Profile) (c : Certificate) (d : Derivation) (es : List (ℕ × ℚ))
    (x stated : Condition) → IsSum c es x → (ints : Ints) → c.problem.integers ≡ ints
    → stated ≡ condition d.stated → IsWholeRow ints x.row → DominatesRounded x stated
    → PassesTestsIn P c d (roundable es ∷ by_rounding es ∷ [])
sum_rounded P c d es x stated summed ints same says w h =
    let whole = subst (λ y. IsWholeRow c.problem.integers y.row) summed.2
    (subst (λ i. IsWholeRow i x.row) (sym same) w) in
    let dominates = subst (λ y. DominatesRounded y (condition d.stated)) summed.2 (subst (DominatesRounded x) says h) in
    inl ((summed.0, summed.1, whole), inl ((summed.0, summed.1, whole, dominates), refl))

-- x is the sum of the entries
module _ (P : Profile) (c : Certificate) (d : Derivation) (es : List (ℕ × ℚ)) (x : Constraint)
    (summed : IsSum c es (condition_of x)) (ints : Ints) (same : c.problem.integers ≡ ints) where
  whole_row : IsWholeRow ints (at x.row) → IsWholeRow c.problem.integers (sum_of (entries c es) summed.0).row
  whole_row w = subst (λ y. IsWholeRow c.problem.integers y.row) summed.2
      (subst (λ i. IsWholeRow i (at x.row)) (sym same) w)

  can_round : IsWholeRow ints (at x.row) → PassesStep P c (condition d.stated) (roundable es)
  can_round w = (summed.0, summed.1, whole_row w)

  -- the row of a sum is the same for each sense
  cannot_round : ¬ IsWholeRow ints (at x.row) → ¬ PassesStep P c (condition d.stated) (roundable es)
  cannot_round bad (s, h, w) =
      bad (subst (λ i. IsWholeRow i (at x.row)) same
      (subst (λ y. IsWholeRow c.problem.integers y.row) (sym summed.2) w))

  pub not_roundable : ¬ IsWholeRow ints (at x.row) → (e : RuleError)
      → shown_by e ≡ Some (cause.not_roundable, sum (condition_of x))
      → StopsIn P c d (roundable es ∷ by_rounding es ∷ []) e
  not_roundable bad e is = (
    roundable es,
    inr (cannot_round bad, refl),
    (sum (condition_of x), is, (condition_of x, summed, refl)),
  )

  module _ (w : IsWholeRow ints (at x.row)) (stated : Constraint)
      (says : condition_of stated ≡ condition d.stated) where
    combines_not : ¬ DominatesRounded (condition_of x) (condition_of stated)
        → ¬ CombinesRounded c.problem.integers (entries c es) (condition d.stated)
    combines_not bad (s, h, _, dom) =
        bad (subst (DominatesRounded (condition_of x)) (sym says)
        (subst (λ y. DominatesRounded y (condition d.stated))
        (ap (sum_of (entries c es)) (one_sense (entries c es) s summed.0 h summed.1)
        ∙ sym summed.2) dom))

    pub rounded_dominates : DominatesRounded (condition_of x) (condition_of stated)
        → PassesTestsIn P c d (roundable es ∷ by_rounding es ∷ [])
    rounded_dominates h = sum_rounded P c d es (condition_of x) (condition_of stated) summed ints same says w h

    module _ (computed : Constraint) (r : IsRounding x (Row computed)) where
      rounded : condition_of computed ≡ record (condition_of x) { bound = whole r.2.0 }
      rounded = λ i. record { row = at (r.0 i); sense = sense_of (r.1 i); bound = r.2.2 i }

      not_dominated : (e : RuleError) → IsNotDominated computed stated e
          → ¬ DominatesRounded (condition_of x) (condition_of stated)
          → StopsIn P c d (roundable es ∷ by_rounding es ∷ []) e
      not_dominated e known bad = (
        by_rounding es,
        inl (can_round w, inr (combines_not bad, refl)),
        (
          compared (condition_of computed) (condition_of stated),
          known.0,
          (condition_of x, r.2.0, summed, r.2.1, λ i. compared (rounded i) (says i)),
        ),
      )

      pub rounded_refused : Dominates (condition_of computed) (condition_of stated)
          ↔ DominatesRounded (condition_of x) (condition_of stated)
          → (e : RuleError) → (e ≡ Memory) ⊎ IsNotDominated computed stated e
          → (e ≡ Memory) ⊎ StopsIn P c d (roundable es ∷ by_rounding es ∷ []) e
      rounded_refused same_as e (inl memory) = inl memory
      rounded_refused same_as e (inr known) = inr (not_dominated e known (λ h. known.1 (same_as.1 h)))
