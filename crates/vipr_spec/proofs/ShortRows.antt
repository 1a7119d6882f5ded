-- Rows as pairs, and rows as maps
use Rattle.std.proofs.Common.{◌≡◌, ℕ, zero, suc, ◌<◌, Bool, true, false, not, ◌==◌, nat_eq}
use Rattle.std.proofs.Common.{if◌then◌else◌, List, [], ◌∷◌, map, filter, unwrap_or}
use Rattle.std.proofs.Common.{All, pos, arith, refl, ◌∙◌, ap, ap₂, subst, cond, ◌⊎◌, ⊎_elim, eq-or-lt_of_le}
use Rattle.std.specs.{Cmp.nat_cmp_total, FinMap.find, FinMap.get-from_entries, List.IsDistinct}
use Rattle.std.specs.{List.AllByRecursion, Ordering.nat_cmp, Ordering.int_eq}
use Rattle.std.proofs.lemmas.Bool.Decides.{nat_tests, Decides-int_eq}
use Rattle.std.proofs.lemmas.List.Elements.{All-head, All-tail}
use Rattle.vipr_spec.specs.Fraction.{ℚ, zero_ℚ, ◌+ℚ◌, ◌*ℚ◌}
use Rattle.vipr_spec.specs.Constraint.{Row, at, Point, value}
use Rattle.vipr_spec.specs.Reading.{is_nonzero, row_of}
use Rattle.vipr_spec.specs.Short as short
use Rattle.vipr_spec.proofs.Fractions.{ring_ℚ, add_assoc_ℚ, zero_from_numer}
use Rattle.vipr_spec.proofs.Linear.{value-zero, value_same}

-- no pair is of this variable
abbrev Lacks : ℕ → List (ℕ × ℚ) → Type 0
Lacks i ps = AllByRecursion (λ j. nat_eq i j ≡ false) (map (λ p. p.0) ps)

absent : (i : ℕ) (ps : List (ℕ × ℚ)) → Lacks i ps → short.point_of ps i ≡ zero_ℚ
absent i [] h = refl
absent i (p ∷ ps) h = let e : (p.0 == i) ≡ false = grind (arith, nat_tests, h.0) in rw e (absent i ps h.1)

is_zero : (x : ℚ) → not (int_eq x.numer (pos 0)) ≡ false → x ≡ zero_ℚ
is_zero x e =
    let t : int_eq x.numer (pos 0) ≡ true = by_not e in
    zero_from_numer x ((Decides-int_eq x.numer (pos 0)).0 t)
  where
    by_not : {b : Bool} → not b ≡ false → b ≡ true
    by_not {b = true} e = refl
    by_not {b = false} e = absurd (cc)

abbrev IsAlike : ℕ × ℚ → List (ℕ × ℚ) → ℕ → Bool → Bool → Type 0
IsAlike p ps j here kept = (p.0 == j) ≡ here → is_nonzero p ≡ kept
    → unwrap_or (find nat_cmp j (cond kept (p ∷ filter is_nonzero ps) (filter is_nonzero ps))) zero_ℚ
    ≡ if here then p.1 else short.point_of ps j

alike : (p : ℕ × ℚ) (ps : List (ℕ × ℚ)) (j : ℕ) → Lacks p.0 ps
    → unwrap_or (find nat_cmp j (filter is_nonzero ps)) zero_ℚ ≡ short.point_of ps j
    → (here kept : Bool) → IsAlike p ps j here kept
alike p ps j d h here kept = grind (arith, nat_tests, absent, is_zero)

looked_up : (ps : List (ℕ × ℚ)) → IsDistinct nat_eq (map (λ p. p.0) ps) → (j : ℕ)
    → unwrap_or (find nat_cmp j (filter is_nonzero ps)) zero_ℚ ≡ short.point_of ps j
unfolding IsDistinct
looked_up [] d j = refl
looked_up (p ∷ ps) d j = alike p ps j d.0 (looked_up ps d.1 j) (p.0 == j) (is_nonzero p) refl refl

-- the map of pairs, at each variable
pub same_point : (ps : List (ℕ × ℚ)) → IsDistinct nat_eq (map (λ p. p.0) ps) → (j : ℕ)
    → at (row_of ps) j ≡ short.point_of ps j
same_point ps d j =
    ap (λ o. unwrap_or o zero_ℚ) (get-from_entries nat_cmp_total (filter is_nonzero ps) j)
    ∙ looked_up ps d j

value_below : (n : ℕ) (x : Point) (f g : ℕ → ℚ) → ((j : ℕ) → j < n → f j ≡ g j)
    → value n f x ≡ value n g x
value_below zero x f g h = refl
value_below (suc n) x f g h =
    ap₂ (λ v c. v +ℚ c *ℚ x n) (value_below n x f g (λ j l. h j (omega arith))) (h n (omega arith))

abbrev with_pair : ℕ → ℚ → (ℕ → ℚ) → ℕ → ℚ
with_pair i a f j = if i == j then a else f j

last_pair : (n : ℕ) (a : ℚ) (f : ℕ → ℚ) (x : Point) → f n ≡ zero_ℚ
    → value n (with_pair n a f) x +ℚ a *ℚ x n ≡ a *ℚ x n +ℚ (value n f x +ℚ f n *ℚ x n)
last_pair n a f x z =
    let others : value n (with_pair n a f) x ≡ value n f x = value_below n x (with_pair n a f) f
    (λ j l. let e : (n == j) ≡ false = grind (arith, nat_tests, l) in rw e refl) in
    rw (others, z) (simp ring_ℚ)

one_more : (n i : ℕ) (a : ℚ) (f : ℕ → ℚ) (x : Point) → i < n → f i ≡ zero_ℚ
    → value n (with_pair i a f) x ≡ a *ℚ x i +ℚ value n f x
one_more zero i a f x h z = absurd (omega arith)
one_more (suc n) i a f x h z = ⊎_elim
    (λ (e : i ≡ n). let t : (n == n) ≡ true = grind (arith, nat_tests) in
    rw (e, t) (last_pair n a f x (subst (λ k. f k ≡ zero_ℚ) e z)))
    (λ (l : i < n). let t : (i == n) ≡ false = grind (arith, nat_tests, l) in
    rw t (ap (λ v. v +ℚ f n *ℚ x n) (one_more n i a f x l z)
    ∙ add_assoc_ℚ (a *ℚ x i) (value n f x) (f n *ℚ x n)))
    (last_or_before i n h)
  where
    last_or_before : (i n : ℕ) → i < suc n → (i ≡ n) ⊎ (i < n)
    last_or_before i n h = eq-or-lt_of_le (omega arith)

-- the sum over the variables is the sum over the pairs
pub same_value : (n : ℕ) (ps : List (ℕ × ℚ)) (x : Point) → IsDistinct nat_eq (map (λ p. p.0) ps)
    → All (λ p. p.0 < n) ps → value n (short.point_of ps) x ≡ short.value ps x
unfolding IsDistinct
same_value n [] x d a = value-zero n x _ (λ j. refl)
same_value n (p ∷ ps) x d a = one_more n p.0 p.1 (short.point_of ps) x
    (All-head (λ (p : ℕ × ℚ). p.0 < n) p ps a) (absent p.0 ps d.0)
    ∙ ap (λ v. p.1 *ℚ x p.0 +ℚ v) (same_value n ps x d.1 (All-tail (λ (p : ℕ × ℚ). p.0 < n) p ps a))

-- the pairs and the map are one row: they have the same values and coordinates
pub record AreOne (n : ℕ) (row : Row) (ps : List (ℕ × ℚ)) : Type 0 where
  pub value : (x : Point) → value n (at row) x ≡ short.value ps x
  pub point : (j : ℕ) → at row j ≡ short.point_of ps j

pub are_one : (n : ℕ) (ps : List (ℕ × ℚ)) → IsDistinct nat_eq (map (λ p. p.0) ps)
    → All (λ p. p.0 < n) ps → AreOne n (row_of ps) ps
are_one n ps d a = record {
  value = λ x. value_same n x (at (row_of ps)) (short.point_of ps) (same_point ps d) ∙ same_value n ps x d a;
  point = same_point ps d;
}

-- the value at a solution
pub value_at_point : (n : ℕ) (row s : Row) (ps qs : List (ℕ × ℚ)) → AreOne n row ps → AreOne n s qs
    → value n (at row) (at s) ≡ short.value ps (short.point_of qs)
value_at_point n row s ps qs r p = points n (at row) (at s) (short.point_of qs) p.point ∙ r.value (short.point_of qs)
  where
    points : (n : ℕ) (f : ℕ → ℚ) (x y : Point) → ((j : ℕ) → x j ≡ y j) → value n f x ≡ value n f y
    points zero f x y h = refl
    points (suc n) f x y h = ap₂ (λ v c. v +ℚ f n *ℚ c) (points n f x y h) (h n)
