-- What is computed of a sum: the sum itself, or its rounding, and the tests of it.
use Rattle.std.proofs.Common.{arith, ◌≡◌, ℕ, List, [], ◌∷◌}
use Rattle.std.specs.Prelude.{◌⊎◌, Result, MatchResult}
use Rattle.std.specs.{FinSet.FinSet, Ordering.nat_cmp, Result.result_and}
use Rattle.vipr_spec.specs.Constraint.{Condition, Profile, Point, Ints, condition, IsTrueAt}
use Rattle.vipr_spec.specs.Steps.{sum_tests, step_tests, by_sum, roundable, by_rounding, IsSum}
use Rattle.vipr_spec.specs.{Certificate.Certificate, Certificate.Derivation, Fraction.ℚ}
use Rattle.vipr_spec.proofs.Laws.{IsWholePoint, dominates_true, rounded_true, whole_value}
use Rattle.vipr_linear.specs.{Constraint.condition_of, declared.constraint.Constraint.Constraint}
use Rattle.vipr_rules.specs.declared.sum.Computed.TheVariants.{Sum, Rounding}
use Rattle.vipr_rules.specs.declared.error.RuleError.TheVariants.{Memory}
use Rattle.vipr_rules.specs.Context.{IsSetOfAll, IsSetByReason}
use Rattle.vipr_rules.specs.Apply.{PassesTestsIn, StopsIn, IsRuledBy, free_tests, reason_by}
use Rattle.vipr_rules.specs.Apply.{computed_tests, DominatesBy}
use Rattle.vipr_rules.specs.{declared.error.RuleError.RuleError, declared.sum.Computed.Computed}
use Rattle.vipr_rules.proofs.StepLemmas.{stops_first, stops_second, passes_both, dominated}
use Rattle.vipr_rules.proofs.RoundLemmas.{sum_rounded}

module _ (P : Profile) (c : Certificate) (d : Derivation) (es : List (ℕ × ℚ)) where
  pub adding_stops : (k : Computed) (e : RuleError) → StopsIn P c d (sum_tests es) e
      → StopsIn P c d (step_tests (reason_by k es)) e
  adding_stops Sum e h = stops_first P c d (sum_tests es) (by_sum es ∷ []) e h
  adding_stops Rounding e h = stops_first P c d (sum_tests es) (roundable es ∷ by_rounding es ∷ []) e h

  pub computing_stops : (k : Computed) (e : RuleError) → PassesTestsIn P c d (sum_tests es)
      → StopsIn P c d (computed_tests k es) e → StopsIn P c d (step_tests (reason_by k es)) e
  computing_stops Sum e p h = stops_second P c d (sum_tests es) (by_sum es ∷ []) e p h
  computing_stops Rounding e p h = stops_second P c d (sum_tests es) (roundable es ∷ by_rounding es ∷ []) e p h

  -- no test comes before the sum
  pub none_free : (k : Computed) → PassesTestsIn P c d (free_tests (reason_by k es))
  none_free k = grind arith

  pub computed_passes : (k : Computed) (x : Condition) (stated : Constraint) (ints : Ints)
      → IsSum c es x → c.problem.integers ≡ ints → condition_of stated ≡ condition d.stated
      → DominatesBy k ints x (condition_of stated) → PassesTestsIn P c d (computed_tests k es)
  computed_passes Sum x stated ints summed same says h = dominated P c d es x stated summed says h
  computed_passes Rounding x stated ints summed same says h =
      sum_rounded P c d es x (condition_of stated) summed ints same says h.0 h.1

  -- the outcome of these tests, and then the set
  pub computed_ruled : (k : Computed) → PassesTestsIn P c d (sum_tests es)
      → (r : Result (Unit {0}) RuleError) (s : Result (FinSet nat_cmp) RuleError)
      → MatchResult r (λ _. PassesTestsIn P c d (computed_tests k es))
      (λ e. (e ≡ Memory) ⊎ StopsIn P c d (computed_tests k es) e)
      → MatchResult s (IsSetByReason c (reason_by k es)) (λ e. e ≡ Memory)
      → IsRuledBy P c d (reason_by k es) (result_and r s)
  computed_ruled k p r s q h = grind (arith, computing_stops, passes_both)

pub set_computed : (c : Certificate) (es : List (ℕ × ℚ)) (s : FinSet nat_cmp) (k : Computed)
    → IsSetOfAll c es s → IsSetByReason c (reason_by k es) s
set_computed c es s k h = grind arith

pub follows_true : (n : ℕ) (x : Point) (ints : Ints) (k : Computed) (held stated : Condition)
    → IsWholePoint ints x → DominatesBy k ints held stated → IsTrueAt n held x → IsTrueAt n stated x
follows_true n x ints Sum held stated w h t = dominates_true n x held stated h t
follows_true n x ints Rounding held stated w h t =
    rounded_true n x held stated (whole_value ints n x held.row h.0 w) h.1 t
