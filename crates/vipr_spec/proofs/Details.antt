-- A step that is refused has one cause and one detail
use Rattle.std.proofs.Common.{◌≡◌, ℤ, sym, ◌∙◌, ap₂, subst, arith}
use Rattle.vipr_spec.specs.{ℚ, whole, Sense, at_most, equal, at_least, Condition, RoundsTo}
use Rattle.vipr_spec.specs.{StepTest, StepDetail, Shows, Certificate.Certificate}
use Rattle.vipr_spec.proofs.Fractions.{le_of_eq_ℚ, le_of_whole}
use Rattle.vipr_spec.proofs.{Best.as_good_antisymm, Integers.≤ℤ_antisymm}

rounds_once : (s : Sense) (b : ℚ) (j k : ℤ) → RoundsTo s b j → RoundsTo s b k → j ≡ k
rounds_once at_least b j k h l = ≤ℤ_antisymm j k (h.1 k l.0) (l.1 j h.0)
rounds_once at_most b j k h l = ≤ℤ_antisymm j k (l.1 j h.0) (h.1 k l.0)
rounds_once equal b j k h l = ≤ℤ_antisymm j k (le_of_whole j k (le_of_eq_ℚ _ _ (sym h ∙ l)))
    (le_of_whole k j (le_of_eq_ℚ _ _ (sym l ∙ h)))

module _ (c : Certificate) (d : Condition) where
  rounded_once : (x y : Condition) (j k : ℤ) → x ≡ y → RoundsTo x.sense x.bound j
      → RoundsTo y.sense y.bound k → record x { bound = whole j } ≡ record y { bound = whole k }
  rounded_once x y j k e h l = ap₂ (λ (z : Condition) (n : ℤ). record z { bound = whole n }) e
      (rounds_once y.sense y.bound j k (subst (λ (z : Condition). RoundsTo z.sense z.bound j) e h)
      l)

  pub shows_once : (t : StepTest) (x y : StepDetail) → Shows c d t x → Shows c d t y → x ≡ y
  shows_once t x y h k = grind (arith, rounded_once, as_good_antisymm)
