-- Sums are the coefficients of a row if each entry has its coefficient, and as many sums as entries
-- are not 0
use Rattle.std.proofs.Common.{◌≡◌, ◌≢◌, ℕ, ◌+◌, ◌<◌, ◌≤◌, take, List, [], ◌∷◌, ◌++◌, length, get_or}
use Rattle.std.proofs.Common.{arith, refl, sym, ◌∙◌, ap, subst, map, filter, false, true, Bool}
use Rattle.std.proofs.Common.{nat_eq, not, pos, All, Option, Some, None, unwrap_or, is_some, IsSome}
use Rattle.std.proofs.Common.{◌⊎◌, inl, inr}
use Rattle.std.proofs.lemmas.List.{length_push, length-map, get_or_default}
use Rattle.std.proofs.lemmas.Map.Keys.{IsDistinct-push, IsDistinct-cons}
use Rattle.std.proofs.lemmas.Map.Steps.{length-le_from_keys}
use Rattle.std.proofs.lemmas.Map.Views.{Contains-from_any, Contains-from_lookup}
use Rattle.std.proofs.{lemmas.Bool.cases_eq, lemmas.Bool.Decides.nat_tests}
use Rattle.std.proofs.{lemmas.List.Folds.list_any-append, lemmas.Map.Made.is_some-lookup}
use Rattle.std.specs.List.{IsDistinct, AllByRecursion, list_any}
use Rattle.std.specs.{Cmp.nat_eq_equiv, FinMap.entries, Map.lookup, Ordering.int_eq, Prelude.◌↔◌}
use Rattle.vipr_spec.specs.Constraint.{Row, at}
use Rattle.vipr_spec.specs.{Fraction.ℚ, Fraction.zero_ℚ, Reading.is_nonzero}
use Rattle.vipr_spec.proofs.Laws.{zero_numer, zero_or_not}
use Rattle.vipr_linear.specs.Row.{RisesFrom, variables_of}
use Rattle.vipr_linear.specs.Touched.{Touching, Covers, CoversNonzero}
use Rattle.vipr_linear.proofs.Adding.{coefficient, coefficient_at, entries_each}
use Rattle.vipr_linear.proofs.{Collecting.picked_distinct, Collecting.found, Marks.pick, Marks.kept}
use Rattle.vipr_linear.proofs.{Marks.left_out, Marks.other, Rows.nonzero_test, Rows.find_lookup}
use Rattle.vipr_linear.proofs.{Rows.contains_unfiltered, Rows.exact, Rows.nothing_distinct}

no_numer : (x : ℚ) → x ≡ zero_ℚ → int_eq x.numer (pos 0) ≡ true
no_numer x z = ap (λ (y : ℚ). int_eq y.numer (pos 0)) z ∙ ap (λ n. int_eq n (pos 0)) zero_numer

module _ (sums : List ℚ) (places : List ℕ) (i : ℕ) (x : ℚ) (l : i < length places)
    (w : get_or places i 0 < length sums) (r : x ≡ get_or sums (get_or places i 0) x) where
  abbrev so_far : List (ℕ × ℚ)
  so_far = filter is_nonzero (take i (map (pick sums) places))

  pub counted : x ≢ zero_ℚ
      → length (filter is_nonzero (take (i + 1) (map (pick sums) places))) ≡ length
      (filter is_nonzero (take i (map (pick sums) places))) + 1
  counted n = grind (
    arith,
    kept sums places i x l w r so_far,
    nonzero_test x n,
    length_push so_far (get_or places i 0, x),
  )

  pub passed : x ≡ zero_ℚ
      → length (filter is_nonzero (take (i + 1) (map (pick sums) places))) ≡ length
      (filter is_nonzero (take i (map (pick sums) places)))
  passed z = sym (ap length (left_out sums places i x l w r so_far refl (no_numer x z)))

-- ---- entries of a row by their variables
found_nonzero : (es : List (ℕ × ℚ)) (j : ℕ) → coefficient es j ≢ zero_ℚ
    → IsSome (lookup (nat_eq j) es)
found_nonzero es j n = by (lookup (nat_eq j) es) refl
  where
    by : (o : Option ℚ) → lookup (nat_eq j) es ≡ o → IsSome (lookup (nat_eq j) es)
    by None e = absurd (n (ap (λ o. unwrap_or o zero_ℚ) (find_lookup j es ∙ e)))
    by (Some v) e = ap is_some e

named_more : (p : ℕ × ℚ) (es : List (ℕ × ℚ)) → p.1 ≢ zero_ℚ → (j : ℕ)
    → (list_any (nat_eq j) (variables_of es) ≡ true → coefficient es j ≢ zero_ℚ)
    → list_any (nat_eq j) (variables_of (p ∷ es)) ≡ true → (j ≡ p.0) ⊎ (j ≢ p.0)
    → coefficient (p ∷ es) j ≢ zero_ℚ
named_more p es some j rest t h z = grind arith

-- a variable of a row has a coefficient that is not 0
named_nonzero : (low : ℕ) (es : List (ℕ × ℚ)) → RisesFrom low es → (j : ℕ)
    → list_any (nat_eq j) (variables_of es) ≡ true → coefficient es j ≢ zero_ℚ
named_nonzero low [] r j t = absurd (cc)
named_nonzero low (p ∷ es) r j t = named_more p es r.1 j (λ d. named_nonzero (p.0 + 1) es r.2 j d) t (cases_eq j p.0)

apart : (v low : ℕ) (es : List (ℕ × ℚ)) → v < low → RisesFrom low es
    → AllByRecursion (λ y. nat_eq v y ≡ false) (variables_of es)
apart v low [] l r = tt
apart v low (p ∷ es) l r =
    let differs : v ≢ p.0 = λ e. absurd (let le : low ≤ p.0 = r.0 in omega (arith, e, le, l)) in
    (other v p.0 differs, apart v (p.0 + 1) es (let le : low ≤ p.0 = r.0 in omega (arith, le, l)) r.2)

distinct_variables : (low : ℕ) (es : List (ℕ × ℚ)) → RisesFrom low es
    → IsDistinct nat_eq (variables_of es)
distinct_variables low [] r = nothing_distinct
distinct_variables low (p ∷ es) r = IsDistinct-cons nat_eq p.0 (variables_of es)
    (apart p.0 (p.0 + 1) es (omega arith) r.2) (distinct_variables (p.0 + 1) es r.2)

any_one_more : (q j : ℕ) (xs : List ℕ) → list_any (nat_eq q) (xs ++ j ∷ []) ≡ true
    → (q ≡ j) ⊎ (list_any (nat_eq q) xs ≡ true)
any_one_more q j xs t = grind (arith, list_any-append)

module _ (sums : List ℚ) (marks : List Bool) (xs : List ℕ) (t : Touching marks xs) (c : Covers sums marks) where
  abbrev these : List (ℕ × ℚ)
  these = filter is_nonzero (map (pick sums) xs)

  these_named : (q : ℕ) → list_any (nat_eq q) (variables_of these) ≡ true → get_or sums q zero_ℚ ≢ zero_ℚ
  these_named q n z = by (lookup (nat_eq q) these) refl
    where
      by : (o : Option ℚ) → lookup (nat_eq q) these ≡ o → ⊥
      by None e = let k : false ≡ true = sym (ap is_some e) ∙ is_some-lookup (nat_eq q) these ∙ n in absurd (cc)
      by (Some v) e =
          let there = contains_unfiltered is_nonzero (map (pick sums) xs) (q, v)
          (Contains-from_lookup exact q v these e) in
          let zero : v ≡ zero_ℚ = sym (ap (λ o. unwrap_or o zero_ℚ) (find_lookup q these ∙ e))
          ∙ found sums marks xs t c q ∙ z in
          let k : false ≡ true = sym (ap not (no_numer v zero)) ∙ there.1 in absurd (cc)

  there_if_nonzero : (q : ℕ) → get_or sums q zero_ℚ ≢ zero_ℚ → IsSome (lookup (nat_eq q) these)
  there_if_nonzero q n = found_nonzero these q (λ z. n (sym (found sums marks xs t c q) ∙ z))

  module _ (es : List (ℕ × ℚ)) (r : RisesFrom 0 es) where
    same_count : ((j : ℕ) → get_or sums j zero_ℚ ≡ coefficient es j) → length these ≡ length es
    same_count h =
        let le = length-le_from_keys nat_eq_equiv (variables_of these) es
        (picked_distinct sums xs t.distinct)
        (λ q n. found_nonzero es q (λ z. these_named q n (h q ∙ z))) in
        let ge = length-le_from_keys nat_eq_equiv (variables_of es) these
        (distinct_variables 0 es r)
        (λ q n. there_if_nonzero q (λ z. named_nonzero 0 es r q n (sym (h q) ∙ z))) in
        let a = length-map these (λ (p : ℕ × ℚ). p.0) in
        let b = length-map es (λ (p : ℕ × ℚ). p.0) in
        omega (arith, le, ge, a, b)

    module _ (h : (j : ℕ) → coefficient es j ≢ zero_ℚ → get_or sums j zero_ℚ ≡ coefficient es j)
        (n : length these ≡ length es) (j : ℕ) (z : coefficient es j ≡ zero_ℚ) where
      not_named : list_any (nat_eq j) (variables_of es) ≡ false
      not_named = by (list_any (nat_eq j) (variables_of es)) refl
        where
          by : (b : Bool) → list_any (nat_eq j) (variables_of es) ≡ b → list_any (nat_eq j) (variables_of es) ≡ false
          by true e = absurd (named_nonzero 0 es r j e z)
          by false e = e

      each_there : get_or sums j zero_ℚ ≢ zero_ℚ → (q : ℕ)
          → list_any (nat_eq q) (variables_of es ++ j ∷ []) ≡ true
          → IsSome (lookup (nat_eq q) these)
      each_there some q m = by (any_one_more q j (variables_of es) m)
        where
          by : (q ≡ j) ⊎ (list_any (nat_eq q) (variables_of es) ≡ true) → IsSome (lookup (nat_eq q) these)
          by (inl e) = there_if_nonzero q (λ y. some (ap (λ k. get_or sums k zero_ℚ) (sym e) ∙ y))
          by (inr named) = let has = named_nonzero 0 es r q named in there_if_nonzero q (λ y. has (sym (h q has) ∙ y))

      none_left_over : get_or sums j zero_ℚ ≡ zero_ℚ
      none_left_over = by (zero_or_not (get_or sums j zero_ℚ))
        where
          by : (get_or sums j zero_ℚ ≡ zero_ℚ) ⊎ ¬ (get_or sums j zero_ℚ ≡ zero_ℚ) → get_or sums j zero_ℚ ≡ zero_ℚ
          by (inl e) = e
          by (inr some) =
              let more = length-le_from_keys nat_eq_equiv (variables_of es ++ j ∷ []) these
              (IsDistinct-push nat_eq_equiv (variables_of es) j (distinct_variables 0 es r)
              not_named) (each_there some) in
              let a = length_push (variables_of es) j in
              let b = length-map es (λ (p : ℕ × ℚ). p.0) in
              absurd (omega (arith, more, a, b, n))

  pub row_counted : (row : Row) (es : List (ℕ × ℚ)) → es ≡ entries row → RisesFrom 0 es
      → (All (λ e. get_or sums e.0 zero_ℚ ≡ e.1) es
      × (length (filter is_nonzero (map (pick sums) xs)) ≡ length es))
      ↔ ((j : ℕ) → get_or sums j zero_ℚ ≡ at row j)
  row_counted row es e r = (
    λ h j. there h j (zero_or_not (coefficient es j)),
    λ h. (each.1 (λ j n. h j ∙ sym (co j)), same_count es r (λ j. h j ∙ sym (co j))),
  )
    where
      co : (j : ℕ) → coefficient es j ≡ at row j
      co j = ap (λ ys. coefficient ys j) e ∙ coefficient_at row (subst (RisesFrom 0) e r) j

      each : All (λ (p : ℕ × ℚ). get_or sums p.0 zero_ℚ ≡ p.1) es
          ↔ ((j : ℕ) → coefficient es j ≢ zero_ℚ → get_or sums j zero_ℚ ≡ coefficient es j)
      each = entries_each (λ j x. get_or sums j zero_ℚ ≡ x) 0 es r

      there : (All (λ (p : ℕ × ℚ). get_or sums p.0 zero_ℚ ≡ p.1) es × (length these ≡ length es))
          → (j : ℕ) → (coefficient es j ≡ zero_ℚ) ⊎ ¬ (coefficient es j ≡ zero_ℚ)
          → get_or sums j zero_ℚ ≡ at row j
      there h j (inl z) = none_left_over es r (each.0 h.0) h.1 j z ∙ sym z ∙ co j
      there h j (inr n) = each.0 h.0 j n ∙ co j

pub covered_places : (sums : List ℚ) (marks : List Bool) (xs : List ℕ) → Touching marks xs
    → Covers sums marks → CoversNonzero sums xs
covered_places sums marks xs t c j n = Contains-from_any exact j xs (sym (t.listed j) ∙ c j n)

-- if each sum of a list that covers those that are not 0 is 0, all are
pub all_zero_listed : (sums : List ℚ) (xs : List ℕ) → CoversNonzero sums xs
    → ((k : ℕ) → k < length xs → get_or sums (get_or xs k 0) zero_ℚ ≡ zero_ℚ) → (j : ℕ)
    → get_or sums j zero_ℚ ≡ zero_ℚ
all_zero_listed sums xs covers all j = by (zero_or_not (get_or sums j zero_ℚ))
  where
    by : (get_or sums j zero_ℚ ≡ zero_ℚ) ⊎ ¬ (get_or sums j zero_ℚ ≡ zero_ℚ) → get_or sums j zero_ℚ ≡ zero_ℚ
    by (inl e) = e
    by (inr n) =
        let at = covers j n in
        ap (λ k. get_or sums k zero_ℚ) (sym (get_or_default xs at.0 0 j at.1 ∙ at.2)) ∙ all at.0 at.1

pub same_test : (a b : ℕ) → a ≡ b → nat_eq a b ≡ true
same_test a b e = grind (arith, nat_tests)
