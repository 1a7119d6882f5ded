-- The tightest bounds of a value, constraint by constraint
use Rattle.std.proofs.Common.{◌≡◌, ℕ, ◌+◌, Bool, true, false, cond, MatchBool, List, pos, sym}
use Rattle.std.proofs.Common.{subst, inl, inr, arith, rules}
use Rattle.std.proofs.{lemmas.Bool.cases_lt, lemmas.Int.ints}
use Rattle.std.specs.Prelude.{◌↔◌, ◌*ℤ◌, ◌<ℤ◌}
use Rattle.std.specs.Ordering.{MatchOrdering, is_lt, ord_max, ord_min}
use Rattle.std.specs.{Cmp.int_ranks, declared.cmp.Ordering.Ordering}
use Rattle.vipr_spec.specs.Constraint.{Constraint, Row, Compares}
use Rattle.vipr_spec.specs.{Certificate.minimum, Fraction.ℚ, Fraction.◌≤ℚ◌, FractionOrder.cmp_ℚ}
use Rattle.vipr_spec.proofs.Laws.{as_good_trans, le_of_eq_ℚ, same_ℚ}
use Rattle.vipr_rules.specs.declared.bounds.Bounds.{Bounds}
use Rattle.vipr_rules.specs.Columns.{nth, HasRow, LiesWithin, AreBounds}

-- ---- the larger and the smaller one of two bounds
ranked : (a b : ℚ) (r : Ordering) → MatchOrdering r
    ((b.numer *ℤ pos a.denom) <ℤ (a.numer *ℤ pos b.denom))
    (b.numer *ℤ pos a.denom ≡ a.numer *ℤ pos b.denom)
    ((a.numer *ℤ pos b.denom) <ℤ (b.numer *ℤ pos a.denom))
    → MatchBool (is_lt r) (b ≤ℚ a) (a ≤ℚ b)
ranked a b r h = grind arith

is_below : (a b : ℚ) → MatchBool (is_lt (cmp_ℚ b a)) (b ≤ℚ a) (a ≤ℚ b)
is_below a b = ranked a b _ (int_ranks (b.numer *ℤ pos a.denom) (a.numer *ℤ pos b.denom))

pub from_max : (a b v : ℚ) → (ord_max cmp_ℚ a b ≤ℚ v) ↔ ((a ≤ℚ v) × (b ≤ℚ v))
from_max a b v = by (is_lt (cmp_ℚ b a)) (is_below a b)
  where
    by : (t : Bool) → MatchBool t (b ≤ℚ a) (a ≤ℚ b) → (cond t a b ≤ℚ v) ↔ ((a ≤ℚ v) × (b ≤ℚ v))
    by true h = (λ k. (k, as_good_trans minimum b a v h k), λ k. k.0)
    by false h = (λ k. (as_good_trans minimum a b v h k, k), λ k. k.1)

pub up_to_min : (a b v : ℚ) → (v ≤ℚ ord_min cmp_ℚ a b) ↔ ((v ≤ℚ a) × (v ≤ℚ b))
up_to_min a b v = by (is_lt (cmp_ℚ b a)) (is_below a b)
  where
    by : (t : Bool) → MatchBool t (b ≤ℚ a) (a ≤ℚ b) → (v ≤ℚ cond t b a) ↔ ((v ≤ℚ a) × (v ≤ℚ b))
    by true h = (λ k. (as_good_trans minimum v b a k h, k), λ k. k.1)
    by false h = (λ k. (k, as_good_trans minimum v a b k h), λ k. k.0)

pub equal_between : (x y : ℚ) → (x ≡ y) ↔ ((y ≤ℚ x) × (x ≤ℚ y))
equal_between x y = search (rules, le_of_eq_ℚ, same_ℚ, ints)

-- ---- constraint by constraint
pub bounds_next : (row : Row) (cs : List Constraint) (n : ℕ) (old new : Bounds)
    → AreBounds row cs n old
    → ((v : ℚ) → LiesWithin new v ↔ (LiesWithin old v
    × (HasRow row (nth cs n) → Compares (nth cs n).sense v (nth cs n).bound)))
    → AreBounds row cs (n + 1) new
bounds_next row cs n old new before next v = (
  λ w i l same. elim (cases_lt i n) [
    | inl below ↦ (before v).0 ((next v).0 w).0 i below same
    | inr past ↦
        let e : n ≡ i = omega (arith, l, past) in
        subst (λ k. Compares (nth cs k).sense v (nth cs k).bound) e
        (((next v).0 w).1 (subst (λ k. HasRow row (nth cs k)) (sym e) same))
  ],
  λ h. (next v).1 ((before v).1 (λ i l same. h i (omega (arith, l)) same), λ same. h n (omega arith) same),
)
