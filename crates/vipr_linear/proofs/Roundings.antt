-- Whole fractions, and what a rounding dominates
use Rattle.std.proofs.Common.{◌≡◌, ℤ, pos, ◌+ℤ◌, ◌≤ℤ◌, Bool, true, arith, refl, sym, subst}
use Rattle.std.proofs.Common.{inl, inr}
use Rattle.std.specs.Prelude.{◌↔◌}
use Rattle.std.proofs.lemmas.Int.{ints}
use Rattle.vipr_spec.specs.Fraction.{ℚ, whole}
use Rattle.vipr_spec.specs.Constraint.{Sense, at_most, at_least, Condition, at, RoundsTo}
use Rattle.vipr_spec.specs.Constraint.{Dominates, DominatesRounded, two, LeavesNone}
use Rattle.vipr_spec.proofs.Laws.{Is, is_self, is_one, is_whole, le_of_whole, le_of_eq_ℚ}
use Rattle.vipr_linear.specs.Constraint.{sense_of, condition_of, with_bound}
use Rattle.vipr_linear.specs.Rounding.{IsRounding, RoundedDominates}
use Rattle.vipr_linear.specs.declared.constraint.Constraint.{Constraint}
use Rattle.vipr_linear.specs.declared.rounding.Rounded.{Rounded}
use Rattle.vipr_linear.specs.declared.rounding.Rounded.TheVariants.{Row, Absurd}

pub whole_of : (x : ℚ) → x.denom ≡ 1 → x ≡ whole x.numer
whole_of x e = is_one x (whole x.numer) x.numer 1 (subst (Is x x.numer) e (is_self x)) (is_whole x.numer)

antisymmetric : (j k : ℤ) → j ≤ℤ k → k ≤ℤ j → j ≡ k
antisymmetric j k h l = omega (arith, ints)

same_whole : (j k : ℤ) → whole j ≡ whole k → j ≡ k
same_whole j k e = antisymmetric j k (le_of_whole j k (le_of_eq_ℚ _ _ e)) (le_of_whole k j (le_of_eq_ℚ _ _ (sym e)))

pub next_known : (low high : ℚ) (b : Bool) → low.denom ≡ 1 → high.denom ≡ 1
    → (b ≡ true) ↔ (high.numer ≡ low.numer +ℤ pos 1)
    → (b ≡ true) ↔ ((k : ℤ) × (low ≡ whole k) × (high ≡ whole (k +ℤ pos 1)))
next_known low high b e f t = grind (arith, whole_of low e, whole_of high f, same_whole)

rounds_once : (s : Sense) (b : ℚ) (j k : ℤ) → RoundsTo s b j → RoundsTo s b k → j ≡ k
rounds_once s b j k h l = grind (arith, same_whole)

pub rounding_dominates : (c : Constraint) (r : Rounded) (d : Condition) → IsRounding c r
    → RoundedDominates r d ↔ DominatesRounded (condition_of c) d
rounding_dominates c (Row e) d h = (λ l. inr (k, h.2.1, subst (λ x. Dominates x d) same l), back)
  where
    k : ℤ
    k = h.2.0

    same : condition_of e ≡ record (condition_of c) { bound = whole h.2.0 }
    same = λ i. record { row = at (h.0 i); sense = sense_of (h.1 i); bound = h.2.2 i }

    back : DominatesRounded (condition_of c) d → Dominates (condition_of e) d
    back (inl l) = absurd (l.1 (h.2.0, subst (λ s. RoundsTo s c.rhs h.2.0) l.0 h.2.1))
    back (inr l) = subst (λ x. Dominates x d) (sym same)
        (subst (λ m. Dominates (record (condition_of c) { bound = whole m }) d)
        (rounds_once (sense_of c.sense) c.rhs l.0 h.2.0 l.1 h.2.1) l.2)
rounding_dominates c Absurd d h = (λ l. inl h, λ l. tt)

-- with the rounded right-hand side
pub rounded_with : (c : Constraint) (b : ℚ) (d : Condition)
    → (k : ℤ) × RoundsTo (sense_of c.sense) c.rhs k × (b ≡ whole k)
    → Dominates (with_bound c b) d ↔ DominatesRounded (condition_of c) d
rounded_with c b d h = rounding_dominates c (Row (record c { rhs = b })) d (refl, refl, h)

-- ---- splits that cover
pub none_left : (low high : ℚ) (floor ceiling : ℤ) (b : Bool) → RoundsTo at_most low floor
    → RoundsTo at_least high ceiling → (b ≡ true) ↔ (ceiling ≤ℤ (floor +ℤ pos 1))
    → (b ≡ true) ↔ LeavesNone two low high
none_left low high floor ceiling b down up known = (
  λ t. (floor, ceiling, down, up, known.0 t),
  λ h. known.1 (subst (λ k. k ≤ℤ (floor +ℤ pos 1)) (rounds_once at_least high h.1 ceiling h.3 up)
      (subst (λ m. h.1 ≤ℤ (m +ℤ pos 1)) (rounds_once at_most low h.0 floor h.2 down) h.4)),
)
