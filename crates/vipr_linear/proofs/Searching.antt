-- What a binary search among a row's entries finds
use Rattle.std.proofs.Common.{◌≡◌, ◌≢◌, ℕ, zero, suc, ◌+◌, ◌<◌, ◌≤◌, List, [], ◌∷◌, length, get_or}
use Rattle.std.proofs.Common.{unwrap_or, arith, refl, sym, ◌∙◌, ap}
use Rattle.std.proofs.{lemmas.Bool.Decides.nat_tests}
use Rattle.std.specs.declared.cmp.Ordering.TheVariants.{Less, Equal, Greater}
use Rattle.std.specs.{FinMap.from_sorted, FinMap.get-from_sorted, List.Sorted.IsNonDecreasingBy}
use Rattle.std.specs.{List.Sorted.IsPartitionPoint, Ordering.nat_cmp, Ordering.ordering_index}
use Rattle.vipr_spec.specs.{Constraint.at, Fraction.ℚ, Fraction.zero_ℚ}
use Rattle.vipr_linear.specs.Row.{RisesFrom}
use Rattle.vipr_linear.proofs.Adding.{coefficient, coefficient_here, coefficient_later}
use Rattle.vipr_linear.proofs.Rows.{rises_sorted}

at_least_low : (low : ℕ) (es : List (ℕ × ℚ)) (i : ℕ) (d : ℕ × ℚ) → RisesFrom low es → i < length es
    → low ≤ (get_or es i d).0
at_least_low low [] i d r l = absurd (omega arith)
at_least_low low (e ∷ es) zero d r l = r.0
at_least_low low (e ∷ es) (suc i) d r l =
    let h = at_least_low (e.0 + 1) es i d r.2 (omega arith) in
    let k : low ≤ e.0 = r.0 in
    omega (arith, h, k)

rises_order : (low : ℕ) (es : List (ℕ × ℚ)) (i j : ℕ) (d : ℕ × ℚ) → RisesFrom low es → i ≤ j
    → j < length es → (get_or es i d).0 ≤ (get_or es j d).0
rises_order low [] i j d r le l = absurd (omega arith)
rises_order low (e ∷ es) zero zero d r le l = omega arith
rises_order low (e ∷ es) zero (suc j) d r le l =
    let h = at_least_low (e.0 + 1) es j d r.2 (omega arith) in
    omega (arith, h)
rises_order low (e ∷ es) (suc i) zero d r le l = absurd (omega arith)
rises_order low (e ∷ es) (suc i) (suc j) d r le l = rises_order (e.0 + 1) es i j d r.2 (omega arith) (omega arith)

index_rises : (a b v : ℕ) → a ≤ b → ordering_index (nat_cmp a v) ≤ ordering_index (nat_cmp b v)
index_rises a b v h = grind (arith, nat_tests)

pub searchable : (es : List (ℕ × ℚ)) (v : ℕ) → RisesFrom 0 es
    → IsNonDecreasingBy (λ (y : ℕ × ℚ). ordering_index (nat_cmp y.0 v)) es
searchable es v r i j d le l = index_rises _ _ v (rises_order 0 es i j d r le l)

pub at_place : (low : ℕ) (es : List (ℕ × ℚ)) (i : ℕ) (d : ℕ × ℚ) → RisesFrom low es → i < length es
    → coefficient es (get_or es i d).0 ≡ (get_or es i d).1
at_place low [] i d r l = absurd (omega arith)
at_place low (e ∷ es) zero d r l = coefficient_here e es e.0 refl
at_place low (e ∷ es) (suc i) d r l =
    grind (
      arith,
      at_least_low (e.0 + 1) es i d r.2 (omega arith),
      coefficient_later,
      at_place (e.0 + 1) es i d r.2 (omega arith),
    )

pub absent : (es : List (ℕ × ℚ)) (v : ℕ) (d : ℕ × ℚ)
    → ((k : ℕ) → k < length es → (get_or es k d).0 ≢ v) → coefficient es v ≡ zero_ℚ
absent [] v d h = refl
absent (e ∷ es) v d h = coefficient_later e es v (λ k. h 0 (omega arith) (sym k))
    ∙ absent es v d (λ k l. h (suc k) (omega arith))

same_number : (a v : ℕ) → nat_cmp a v ≡ Equal → a ≡ v
same_number a v e = grind (arith, nat_tests)

at_sorted : (es : List (ℕ × ℚ)) (v : ℕ) → RisesFrom 0 es → at (from_sorted es) v ≡ coefficient es v
at_sorted es v r = ap (λ o. unwrap_or o zero_ℚ) (get-from_sorted nat_cmp es v (rises_sorted 0 es r))

pub found_at : (es : List (ℕ × ℚ)) (v i : ℕ) (p : ℕ × ℚ) → RisesFrom 0 es → i < length es
    → p ≡ get_or es i p → nat_cmp (get_or es i p).0 v ≡ Equal → p.1 ≡ at (from_sorted es) v
found_at es v i p r l e t = ap (λ (q : ℕ × ℚ). q.1) e ∙ sym (at_place 0 es i p r l)
    ∙ ap (coefficient es) (same_number _ v t) ∙ sym (at_sorted es v r)

pub not_found : (es : List (ℕ × ℚ)) (v i : ℕ) → RisesFrom 0 es
    → IsPartitionPoint (λ (y : ℕ × ℚ). nat_cmp y.0 v ≡ Less) (λ y. nat_cmp y.0 v ≡ Greater) es i
    → zero_ℚ ≡ at (from_sorted es) v
not_found es v i r h = sym (at_sorted es v r ∙ absent es v (0, zero_ℚ) (λ k l. grind arith))
