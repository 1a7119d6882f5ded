-- Lists of pairs as rows: order, look-ups, and that the order of the pairs makes no difference
use Rattle.std.proofs.Common.{◌≡◌, ◌≢◌, ℕ, zero, suc, ◌+◌, ◌-◌, ◌<◌, ◌≤◌, take, drop, Bool, true}
use Rattle.std.proofs.Common.{false, not, cond, nat_eq, List, [], ◌∷◌, ◌++◌, length, get_or, filter}
use Rattle.std.proofs.Common.{All, Contains, Option, Some, None, IfSome, pos, T, arith, refl, sym}
use Rattle.std.proofs.Common.{◌∙◌, ap, subst, append_assoc, ◌||◌, ◌&&◌, unwrap_or, inl, inr, ◌⊎◌}
use Rattle.std.proofs.Common.{rules}
use Rattle.std.proofs.lemmas.Bool.Decides.{nat_tests, Decides-int_eq}
use Rattle.std.proofs.lemmas.List.{get_or-map, length-map, take_more, take-append-drop}
use Rattle.std.proofs.lemmas.List.Elements.{All-nil, All-cons, All-head, All-contains, All-filter}
use Rattle.std.proofs.lemmas.List.Elements.{Contains-get_or, filter_passes}
use Rattle.std.proofs.lemmas.List.Sorted.{Contains-permutation, IsPermutation-map}
use Rattle.std.proofs.lemmas.List.Sorted.{IsPermutation-refl}
use Rattle.std.proofs.lemmas.Map.Keys.{IsDistinct-push, IsDistinct-from_apart, below_from_sorted}
use Rattle.std.proofs.lemmas.Map.Keys.{sorted_head, sorted_tail, sorted_from_strictly_increasing}
use Rattle.std.proofs.lemmas.Map.Keys.{IsDistinct-IsPermutation, IsStrictlyIncreasing-from_distinct}
use Rattle.std.proofs.lemmas.Map.Views.{Contains-from_any, Contains-from_lookup}
use Rattle.std.proofs.lemmas.Map.Views.{lookup-from_Contains}
use Rattle.std.proofs.{lemmas.Bool.cases_eq, lemmas.List.Folds.list_any-append}
use Rattle.std.proofs.{lemmas.Map.Made.IsDistinct-keys_filter, lemmas.Slice.Eq.slice_eq-Decides}
use Rattle.std.specs.FinMap.{entries, from_sorted, find, is_sorted, get-from_sorted}
use Rattle.std.specs.FinMap.{get-from_entries, entries-from_sorted, entries_sorted}
use Rattle.std.specs.FinMap.{same_entries_map, same_map, nat_cmp-IsAntisymmetric}
use Rattle.std.specs.List.Sorted.{IsPermutation, IsNonDecreasing, IsNonDecreasingBy}
use Rattle.std.specs.List.Sorted.{IsStrictlyIncreasing, IsStrictlySortedBy}
use Rattle.std.specs.{BTreeMap.is_at, Bool.Decides, Bool.◌==◌, Cmp.nat_eq_equiv, Cmp.nat_cmp_total}
use Rattle.std.specs.{Cmp.Lexicographic.pointwise, FinMap.Entries.below_all, List.IsDistinct}
use Rattle.std.specs.{List.AllByRecursion, List.list_any, Map.lookup, Ordering.nat_cmp}
use Rattle.std.specs.{Ordering.int_eq, Prelude.◌↔◌, declared.cmp.Ordering.TheVariants.Less}
use Rattle.vipr_spec.specs.Fraction.{ℚ, zero_ℚ, IsBounded}
use Rattle.vipr_spec.specs.Constraint.{Row, at, HasNoZeros}
use Rattle.vipr_spec.specs.{FractionOrder.eq_ℚ, Reading.is_nonzero, Reading.row_of, Shape.RowFits}
use Rattle.vipr_spec.proofs.Laws.{eq_is, same_rows, zero_from_numer, not_zero}
use Rattle.vipr_linear.specs.Row.{RisesFrom, AreEntries, variables_of, IsFirstRepeated}

-- ---- zero
pub zero_test : (x : ℚ) → not (int_eq x.numer (pos 0)) ≡ false → x ≡ zero_ℚ
zero_test x t = by (int_eq x.numer (pos 0)) refl t
  where
    by : (b : Bool) → int_eq x.numer (pos 0) ≡ b → not b ≡ false → x ≡ zero_ℚ
    by true e h = zero_from_numer x ((Decides-int_eq x.numer (pos 0)).0 e)
    by false e h = absurd (cc)

pub nonzero_test : (x : ℚ) → x ≢ zero_ℚ → not (int_eq x.numer (pos 0)) ≡ true
nonzero_test x n = by (int_eq x.numer (pos 0)) refl
  where
    by : (b : Bool) → int_eq x.numer (pos 0) ≡ b → not (int_eq x.numer (pos 0)) ≡ true
    by true e = absurd (n (zero_from_numer x ((Decides-int_eq x.numer (pos 0)).0 e)))
    by false e = ap not e

-- ---- order
pub rises_from : (low high : ℕ) (es : List (ℕ × ℚ)) → low ≤ high → RisesFrom high es
    → RisesFrom low es
rises_from low high [] h r = tt
rises_from low high (e ∷ es) h r = (omega arith, r.1, r.2)

rises_below : (x low : ℕ) (es : List (ℕ × ℚ)) → x < low → RisesFrom low es
    → T (below_all nat_cmp x es)
rises_below x low [] h r = tt
rises_below x low (e ∷ es) h r = grind (arith, rises_below x (e.0 + 1) es (omega arith) r.2)

pub rises_sorted : (low : ℕ) (es : List (ℕ × ℚ)) → RisesFrom low es → T (is_sorted nat_cmp es)
rises_sorted low [] r = tt
rises_sorted low (e ∷ es) r =
    grind (arith, rises_below e.0 (e.0 + 1) es (omega arith) r.2, rises_sorted (e.0 + 1) es r.2)

-- ---- look-ups
module _ (j : ℕ) where
  find_nonzero : (low : ℕ) (es : List (ℕ × ℚ)) → RisesFrom low es → IfSome (find nat_cmp j es) (λ a. a ≢ zero_ℚ)
  find_nonzero low [] r = tt
  find_nonzero low (e ∷ es) r = grind (arith, find_nonzero (e.0 + 1) es r.2)

pub no_zeros : (es : List (ℕ × ℚ)) → RisesFrom 0 es → HasNoZeros (from_sorted es)
no_zeros es r = λ j. subst (λ (o : Option ℚ). IfSome o (λ a. a ≢ zero_ℚ))
    (sym (get-from_sorted nat_cmp es j (rises_sorted 0 es r))) (find_nonzero j 0 es r)

pub nonzero_from : (low : ℕ) (es : List (ℕ × ℚ)) → RisesFrom low es
    → All (λ (e : ℕ × ℚ). e.1 ≢ zero_ℚ) es
nonzero_from low [] r = All-nil (λ (e : ℕ × ℚ). e.1 ≢ zero_ℚ)
nonzero_from low (e ∷ es) r = All-cons (λ (e : ℕ × ℚ). e.1 ≢ zero_ℚ) e es r.1 (nonzero_from (e.0 + 1) es r.2)

-- the row of such entries has numbers that can be written
pub entries_fit : (es : List (ℕ × ℚ)) → AreEntries es → RowFits (from_sorted es)
entries_fit es a = subst (All (λ (e : ℕ × ℚ). (e.1 ≢ zero_ℚ) × IsBounded e.1))
    (sym (entries-from_sorted nat_cmp es (rises_sorted 0 es a.rising)))
    (λ k d l. (nonzero_from 0 es a.rising k d l, a.bounded k d l))

pub find_lookup : (q : ℕ) (es : List (ℕ × ℚ)) → find nat_cmp q es ≡ lookup (nat_eq q) es
find_lookup q [] = refl
find_lookup q (e ∷ es) = grind (arith, find_lookup q es)

pub exact : (x y : ℕ) → nat_eq x y ≡ true → x ≡ y
exact x y h = grind (arith, nat_tests)

-- a look-up does not depend on the order
module _ (q : ℕ) (xs ys : List (ℕ × ℚ)) (dx : IsDistinct nat_eq (variables_of xs))
    (dy : IsDistinct nat_eq (variables_of ys)) (there : (e : ℕ × ℚ) → Contains xs e → Contains ys e)
    (back : (e : ℕ × ℚ) → Contains ys e → Contains xs e) where
  same_lookup : lookup (nat_eq q) xs ≡ lookup (nat_eq q) ys
  same_lookup = by (lookup (nat_eq q) xs) (lookup (nat_eq q) ys) refl refl
    where
      by : (a b : Option ℚ) → lookup (nat_eq q) xs ≡ a → lookup (nat_eq q) ys ≡ b → a ≡ b
      by None None e f = refl
      by (Some v) b e f =
          sym (lookup-from_Contains nat_eq_equiv q v ys dy
          (there (q, v) (Contains-from_lookup exact q v xs e))) ∙ f
      by None (Some w) e f = sym e ∙ lookup-from_Contains nat_eq_equiv q w xs dx
          (back (q, w) (Contains-from_lookup exact q w ys f))

-- ---- filters
contains_cons : (x e : ℕ × ℚ) (es : List (ℕ × ℚ)) → Contains es e → Contains (x ∷ es) e
contains_cons x e es h = (suc h.0, omega (arith, h.1), h.2)

contains_cases : (x e : ℕ × ℚ) (es : List (ℕ × ℚ)) → Contains (x ∷ es) e → (x ≡ e) ⊎ Contains es e
contains_cases x e es h = grind arith

pub contains_filter : (p : ℕ × ℚ → Bool) (es : List (ℕ × ℚ)) (e : ℕ × ℚ) → p e ≡ true
    → Contains es e → Contains (filter p es) e
contains_filter p [] e t h = absurd (omega (arith, h.1))
contains_filter p (x ∷ es) e t h = elim (contains_cases x e es h) [
  | inl same ↦ subst (λ b. Contains (cond b (x ∷ filter p es) (filter p es)) e)
      (sym (ap p same ∙ t)) (0, omega arith, same)
  | inr later ↦ let rest = contains_filter p es e t later in
      elim (p x) as (λ b. Contains (cond b (x ∷ filter p es) (filter p es)) e)
      [ true ↦ contains_cons x e _ rest | false ↦ rest ]
]

pub contains_unfiltered : (p : ℕ × ℚ → Bool) (es : List (ℕ × ℚ)) (e : ℕ × ℚ)
    → Contains (filter p es) e → Contains es e × (p e ≡ true)
contains_unfiltered p es e h = (
  All-contains (Contains es) (filter p es) e (All-filter p (Contains es) es (λ k d l. Contains-get_or es k d l)) h,
  All-contains (λ x. p x ≡ true) (filter p es) e (filter_passes p es) h,
)

find_filtered : (q : ℕ) (xs ys : List (ℕ × ℚ)) → IsPermutation xs ys → IsPermutation ys xs
    → IsDistinct nat_eq (variables_of xs) → IsDistinct nat_eq (variables_of ys)
    → find nat_cmp q (filter is_nonzero xs) ≡ find nat_cmp q (filter is_nonzero ys)
find_filtered q xs ys p p' dx dy =
    find_lookup q _
    ∙ same_lookup q (filter is_nonzero xs) (filter is_nonzero ys)
    (IsDistinct-keys_filter nat_eq is_nonzero xs dx)
    (IsDistinct-keys_filter nat_eq is_nonzero ys dy) (moved xs ys p) (moved ys xs p')
    ∙ sym (find_lookup q _)
  where
    moved : (xs ys : List (ℕ × ℚ)) → IsPermutation xs ys → (e : ℕ × ℚ)
        → Contains (filter is_nonzero xs) e → Contains (filter is_nonzero ys) e
    moved xs ys p e h =
        let r = contains_unfiltered is_nonzero xs e h in
        contains_filter is_nonzero ys e r.1 (Contains-permutation xs ys e p r.0)

-- ---- the list that a row keeps
at_least_all : (low x : ℕ) (ys : List ℕ) → low ≤ x → AllByRecursion (λ y. nat_cmp x y ≡ Less) ys
    → AllByRecursion (λ y. low + 1 ≤ y) ys
at_least_all low x [] le h = tt
at_least_all low x (y ∷ ys) le h =
    (let l : nat_cmp x y ≡ Less = h.0 in grind (arith, nat_tests), at_least_all low x ys le h.1)

rises_filtered : (low : ℕ) (es : List (ℕ × ℚ)) → AllByRecursion (λ y. low ≤ y) (variables_of es)
    → IsStrictlySortedBy nat_cmp (variables_of es) → RisesFrom low (filter is_nonzero es)
rises_filtered low [] h s = tt
rises_filtered low (e ∷ es) h s =
    by (is_nonzero e) refl h.0
    (rises_filtered (e.0 + 1) es
    (at_least_all e.0 e.0 (variables_of es) (omega arith)
    (sorted_head nat_cmp e.0 (variables_of es) s))
    (sorted_tail nat_cmp e.0 (variables_of es) s))
  where
    by : (b : Bool) → is_nonzero e ≡ b → low ≤ e.0 → RisesFrom (e.0 + 1) (filter is_nonzero es)
        → RisesFrom low (cond b (e ∷ filter is_nonzero es) (filter is_nonzero es))
    by true t le rest = (le, not_zero e.1 t, rest)
    by false t le rest = rises_from low (e.0 + 1) (filter is_nonzero es) (omega arith) rest

at_least_nothing : (ys : List ℕ) → AllByRecursion (λ y. 0 ≤ y) ys
at_least_nothing [] = tt
at_least_nothing (y ∷ ys) = (omega arith, at_least_nothing ys)

-- what is kept of pairs that rise
pub row_kept : (es : List (ℕ × ℚ)) → IsStrictlyIncreasing (variables_of es)
    → RisesFrom 0 (filter is_nonzero es)
row_kept es s = rises_filtered 0 es (at_least_nothing _) (sorted_from_strictly_increasing _ s)

pub distinct_of_rising : (xs : List ℕ) → IsStrictlyIncreasing xs → IsDistinct nat_eq xs
distinct_of_rising xs s =
    IsDistinct-from_apart nat_eq xs
    (λ i j d l h. let b = below_from_sorted xs i j d (sorted_from_strictly_increasing xs s) l h in
    grind (arith, nat_tests))

-- the list that is kept makes the row of the pairs
pub row_seen : (pairs es : List (ℕ × ℚ)) → IsPermutation pairs es → IsPermutation es pairs
    → IsDistinct nat_eq (variables_of pairs) → IsStrictlyIncreasing (variables_of es)
    → from_sorted {R = nat_cmp} (filter is_nonzero es) ≡ row_of pairs
row_seen pairs es p p' d s = same_map nat_cmp_total nat_cmp-IsAntisymmetric _ _ (λ q.
    get-from_sorted nat_cmp (filter is_nonzero es) q (rises_sorted 0 _ (row_kept es s))
    ∙ find_filtered q es pairs p' p (distinct_of_rising _ s) d
    ∙ sym (get-from_entries nat_cmp_total (filter is_nonzero pairs) q))

non_decreasing_keys : (es : List (ℕ × ℚ)) → IsNonDecreasingBy (λ p. p.0) es
    → IsNonDecreasing (variables_of es)
non_decreasing_keys es n = λ i j d le l.
    let e = length-map es (λ (p : ℕ × ℚ). p.0) in
    let before : i < length es = omega (arith, e) in
    let within : j < length es = omega (arith, e) in
    rw (
      get_or-map (λ (p : ℕ × ℚ). p.0) es i (d, zero_ℚ) d before,
      get_or-map (λ (p : ℕ × ℚ). p.0) es j (d, zero_ℚ) d within,
    ) (n i j (d, zero_ℚ) le within)

pub rising_of_sorted : (pairs es : List (ℕ × ℚ)) → IsPermutation pairs es
    → IsNonDecreasingBy (λ p. p.0) es → IsDistinct nat_eq (variables_of pairs)
    → IsStrictlyIncreasing (variables_of es)
rising_of_sorted pairs es p n d = IsStrictlyIncreasing-from_distinct (variables_of es)
    (non_decreasing_keys es n) (IsDistinct-IsPermutation nat_eq (λ x y. grind (arith, nat_tests))
    (variables_of pairs) (variables_of es) (IsPermutation-map (λ p. p.0) pairs es p) d)

-- ---- the test whether variables rise
-- the last variable of a row is the greatest
pub ends_greatest : (low : ℕ) (es : List (ℕ × ℚ)) (n i : ℕ) (p : ℕ × ℚ) → RisesFrom low es
    → i + 1 ≡ length es → (get_or es i p).0 < n → All (λ (e : ℕ × ℚ). e.0 < n) es
ends_greatest low [] n i p r h l = absurd (omega arith)
ends_greatest low (e ∷ []) n zero p r h l = All-cons (λ (e : ℕ × ℚ). e.0 < n) e [] l (All-nil (λ (e : ℕ × ℚ). e.0 < n))
ends_greatest low (e ∷ []) n (suc i) p r h l = absurd (omega arith)
ends_greatest low (e ∷ f ∷ es) n zero p r h l = absurd (omega arith)
ends_greatest low (e ∷ f ∷ es) n (suc i) p r h l =
    let rest = ends_greatest (e.0 + 1) (f ∷ es) n i p r.2 (omega arith) l in
    let next : f.0 < n = All-head (λ (e : ℕ × ℚ). e.0 < n) f es rest in
    let rises : e.0 + 1 ≤ f.0 = r.2.0 in
    let less : e.0 < n = omega arith in
    All-cons (λ (e : ℕ × ℚ). e.0 < n) e (f ∷ es) less rest

key_at : (es : List (ℕ × ℚ)) (k : ℕ) (p : ℕ × ℚ) → k < length es
    → get_or (variables_of es) k 0 ≡ (get_or es k p).0
key_at es k p l = get_or-map (λ (p : ℕ × ℚ). p.0) es k p 0 l

pub rises_more : (es : List (ℕ × ℚ)) (i : ℕ) (p q : ℕ × ℚ) → 1 ≤ i → i < length es
    → (get_or es (i - 1) p).0 < (get_or es i q).0
    → ((k : ℕ) → k + 1 < i → get_or (variables_of es) k 0 < get_or (variables_of es) (k + 1) 0)
    → (k : ℕ) → k + 1 < i + 1
    → get_or (variables_of es) k 0 < get_or (variables_of es) (k + 1) 0
rises_more es i p q some l less before k h = by (cases_eq (k + 1) i)
  where
    by : (k + 1 ≡ i) ⊎ (k + 1 ≢ i) → get_or (variables_of es) k 0 < get_or (variables_of es) (k + 1) 0
    by (inl is) =
        let at : k ≡ i - 1 = omega arith in
        let first = key_at es (i - 1) p (omega arith) in
        let second = key_at es i q l in
        rw (is, at, first, second) less
    by (inr apart) = before k (omega arith)

pub falls_at : (es : List (ℕ × ℚ)) (i : ℕ) (p q : ℕ × ℚ) → 1 ≤ i → i < length es
    → (get_or es i q).0 ≤ (get_or es (i - 1) p).0 → ¬ IsStrictlyIncreasing (variables_of es)
falls_at es i p q some l more rising =
    let first = key_at es (i - 1) p (omega arith) in
    let second = key_at es i q l in
    let next : i - 1 + 1 ≡ i = omega arith in
    let e = length-map es (λ (p : ℕ × ℚ). p.0) in
    let h : get_or (variables_of es) (i - 1) 0 < get_or (variables_of es) (i - 1 + 1) 0 =
    rising (i - 1) (omega (arith, e)) in
    let h' = rw next at h in
    omega (arith, first, second, h')

-- ---- the first variable that stood before
module _ (es : List (ℕ × ℚ)) (i : ℕ) (p : ℕ × ℚ) (l : i < length es) (e : p ≡ get_or es i p) where
  here : get_or (variables_of es) i 0 ≡ p.0
  here = key_at es i p l ∙ ap (λ (p : ℕ × ℚ). p.0) (sym e)

  within : i < length (variables_of es)
  within = let h = length-map es (λ (p : ℕ × ℚ). p.0) in omega (arith, h, l)

  one_more : take (i + 1) (variables_of es) ≡ take i (variables_of es) ++ p.0 ∷ []
  one_more = take_more (variables_of es) i 0 within ∙ ap (λ v. take i (variables_of es) ++ v ∷ []) here

  pub first_repeated_at : IsDistinct nat_eq (take i (variables_of es))
      → list_any (nat_eq p.0) (take i (variables_of es)) ≡ true
      → IsFirstRepeated (variables_of es) p.0
  first_repeated_at d t = record {
    before = take i (variables_of es);
    after = drop (i + 1) (variables_of es);
    parts = sym (take-append-drop (i + 1) (variables_of es))
        ∙ ap (λ xs. xs ++ drop (i + 1) (variables_of es)) one_more
        ∙ append_assoc (take i (variables_of es)) (p.0 ∷ []) (drop (i + 1) (variables_of es));
    distinct = d;
    repeated = Contains-from_any exact p.0 (take i (variables_of es)) t;
  }

  pub distinct_more : IsDistinct nat_eq (take i (variables_of es))
      → list_any (nat_eq p.0) (take i (variables_of es)) ≡ false
      → IsDistinct nat_eq (take (i + 1) (variables_of es))
  distinct_more d t = rw one_more (IsDistinct-push nat_eq_equiv (take i (variables_of es)) p.0 d t)

  pub seen_more : (q : ℕ) (old new : Bool) → old ≡ list_any (nat_eq q) (take i (variables_of es))
      → new ≡ cond (is_at (nat_cmp p.0) q) true old
      → new ≡ list_any (nat_eq q) (take (i + 1) (variables_of es))
  seen_more q old new a b =
      b ∙ ap (λ t. cond t true old) same ∙ either (nat_eq q p.0) old ∙ ap (λ o. o || (nat_eq q p.0 || false)) a
      ∙ sym (list_any-append (nat_eq q) (take i (variables_of es)) (p.0 ∷ [])) ∙ ap (list_any (nat_eq q)) (sym one_more)
    where
      same : is_at (nat_cmp p.0) q ≡ nat_eq q p.0
      same = grind (arith, nat_tests)

      either : (t o : Bool) → cond t true o ≡ (o || (t || false))
      either t o = grind arith

pub nothing_distinct : IsDistinct nat_eq []
unfolding IsDistinct
nothing_distinct = tt

-- ---- rows that are the same
pub same_entry : (a b : ℕ × ℚ) → Decides (nat_eq a.0 b.0 && eq_ℚ a.1 b.1) (a ≡ b)
same_entry a b = (there (nat_eq a.0 b.0) refl, back)
  where
    there : (t : Bool) → nat_eq a.0 b.0 ≡ t → (t && eq_ℚ a.1 b.1) ≡ true → a ≡ b
    there true e h = let k = exact a.0 b.0 e in let v = (eq_is a.1 b.1).0 h in (λ i. (k i, v i))
    there false e h = absurd (cc)

    back : a ≡ b → (nat_eq a.0 b.0 && eq_ℚ a.1 b.1) ≡ true
    back e =
        let k : nat_eq a.0 b.0 ≡ true = let f = ap (λ (p : ℕ × ℚ). p.0) e in
        grind (arith, nat_tests) in
        ap (λ t. t && eq_ℚ a.1 b.1) k ∙ (eq_is a.1 b.1).1 (ap (λ (p : ℕ × ℚ). p.1) e)

pub same_lists : (xs ys : List (ℕ × ℚ)) → RisesFrom 0 xs → RisesFrom 0 ys
    → ((j : ℕ) → at (from_sorted xs) j ≡ at (from_sorted ys) j) → xs ≡ ys
same_lists xs ys r s e =
    sym (entries-from_sorted nat_cmp xs (rises_sorted 0 xs r))
    ∙ ap entries (same_rows (from_sorted xs) (from_sorted ys) (no_zeros xs r) (no_zeros ys s) e)
    ∙ entries-from_sorted nat_cmp ys (rises_sorted 0 ys s)

-- a test of the lists tells whether the coefficients are the same
pub same_known : (xs ys : List (ℕ × ℚ)) (b : Bool) → RisesFrom 0 xs → RisesFrom 0 ys
    → b ≡ pointwise (λ (x y : ℕ × ℚ). nat_eq x.0 y.0 && eq_ℚ x.1 y.1) xs ys
    → (b ≡ true) ↔ ((j : ℕ) → at (from_sorted xs) j ≡ at (from_sorted ys) j)
same_known xs ys b r s h = grind (arith, slice_eq-Decides same_entry xs ys b h, same_lists)

pub same_if_equal : (xs ys : List (ℕ × ℚ)) (b : Bool)
    → b ≡ pointwise (λ (x y : ℕ × ℚ). nat_eq x.0 y.0 && eq_ℚ x.1 y.1) xs ys → b ≡ true → xs ≡ ys
same_if_equal xs ys b h = (slice_eq-Decides same_entry xs ys b h).0

-- the entries of a row make it again
pub row_again : (m : Row) → from_sorted {R = nat_cmp} (entries m) ≡ m
row_again m = same_entries_map _ m (entries-from_sorted nat_cmp (entries m) (entries_sorted m))

pub at-nothing : (j : ℕ) → at (from_sorted []) j ≡ zero_ℚ
at-nothing j = ap (λ o. unwrap_or o zero_ℚ) (get-from_sorted nat_cmp [] j tt)

pub empty_known : (xs : List (ℕ × ℚ)) (b : Bool) → RisesFrom 0 xs → b ≡ (length xs == 0)
    → (b ≡ true) ↔ ((j : ℕ) → at (from_sorted xs) j ≡ zero_ℚ)
empty_known [] b r h = (λ t j. at-nothing j, λ e. h)
empty_known (x ∷ xs) b r h = (
  λ t. absurd (grind (arith, nat_tests)),
  λ e. let is =
      same_lists (x ∷ xs) [] r tt (λ j. e j ∙ sym (at-nothing j)) in absurd (cc),
)

-- ---- the row of one pair
one_rises : (v : ℕ) → IsStrictlyIncreasing (v ∷ [])
one_rises v = search rules

pub one_seen : (e : ℕ × ℚ)
    → from_sorted {R = nat_cmp} (filter is_nonzero (e ∷ [])) ≡ row_of (e ∷ [])
one_seen e =
    let one = e ∷ [] in
    row_seen one one (IsPermutation-refl one) (IsPermutation-refl one)
    (distinct_of_rising _ (one_rises e.0)) (one_rises e.0)

pub one_passes : (e : ℕ × ℚ) → is_nonzero e ≡ true → filter is_nonzero (e ∷ []) ≡ e ∷ []
one_passes e t = ap (λ b. cond b (e ∷ []) []) t

pub one_fails : (e : ℕ × ℚ) → is_nonzero e ≡ false → filter is_nonzero (e ∷ []) ≡ []
one_fails e t = ap (λ b. cond b (e ∷ []) []) t

pub one_kept : (e : ℕ × ℚ) → is_nonzero e ≡ true → IsBounded e.1 → AreEntries (e ∷ [])
one_kept e t b =
    record {
      rising = subst (RisesFrom 0) (one_passes e t) (row_kept (e ∷ []) (one_rises e.0));
      bounded = search (rules, b);
    }
