-- The terms of a row, added one after the other, change each variable's sum at once
use Rattle.std.proofs.Common.{◌≡◌, ◌≢◌, ℕ, ◌+◌, ◌<◌, ◌≤◌, Bool, true, false, cond, List, [], ◌∷◌}
use Rattle.std.proofs.Common.{map, length, get_or, replicate, All, Some, unwrap_or, arith, refl}
use Rattle.std.proofs.Common.{sym, ◌∙◌, ap, ap₂, subst, subst₂, pos, ◌⊎◌, inl, inr}
use Rattle.std.specs.{FinMap.entries, FinMap.find, FinMap.get-from_sorted, List.range_with_len}
use Rattle.std.specs.{Ordering.nat_cmp, Ordering.int_eq, Ordering.eq_by_cmp, Prelude.◌↔◌}
use Rattle.std.proofs.lemmas.Bool.{cases_eq, cases_lt}
use Rattle.std.proofs.lemmas.Bool.Decides.{nat_tests, Decides-int_eq}
use Rattle.std.proofs.lemmas.List.{get_or-set_same, get_or-set_other, get_or_default}
use Rattle.std.proofs.lemmas.List.{get_or-replicate, length-set, length-replicate, same_lists}
use Rattle.std.proofs.lemmas.List.Elements.{All-head, All-tail, All-nil, All-cons}
use Rattle.std.proofs.lemmas.List.FromFn.{get_or-map-range_with_len, length-map-range_with_len}
use Rattle.vipr_spec.specs.Fraction.{ℚ, zero_ℚ, ◌+ℚ◌, ◌*ℚ◌}
use Rattle.vipr_spec.specs.Constraint.{Row, at, equal, Entry, NamesBelow}
use Rattle.vipr_spec.proofs.Laws.{add-zero_ℚ, mul-zero_ℚ, zero-mul_ℚ, zero_or_not, turned_zero}
use Rattle.vipr_spec.proofs.Laws.{joined_equal, zero_numer, zero_from_numer}
use Rattle.vipr_spec.specs.MoreEntries.{sense_of_both, TermFits}
use Rattle.vipr_linear.specs.Accumulator.{Accumulator, sum_at, with_entry, with_term, with_terms}
use Rattle.vipr_linear.specs.Accumulator.{TermsFitIn, joined_with}
use Rattle.vipr_linear.specs.Row.{RisesFrom}
use Rattle.vipr_linear.proofs.Rows.{row_again, rises_sorted}

abbrev pub coefficient : List (ℕ × ℚ) → ℕ → ℚ
coefficient es j = unwrap_or (find nat_cmp j es) zero_ℚ

tied : (j : ℕ) → eq_by_cmp nat_cmp j j ≡ true
tied j = grind (arith, nat_tests)

untied : (j k : ℕ) → j ≢ k → eq_by_cmp nat_cmp j k ≡ false
untied j k n = grind (arith, nat_tests)

pub coefficient_here : (p : ℕ × ℚ) (es : List (ℕ × ℚ)) (j : ℕ) → j ≡ p.0
    → coefficient (p ∷ es) j ≡ p.1
coefficient_here p es j e = ap (λ b. unwrap_or (cond b (Some p.1) (find nat_cmp j es)) zero_ℚ)
    (ap (eq_by_cmp nat_cmp j) (sym e) ∙ tied j)

pub coefficient_later : (p : ℕ × ℚ) (es : List (ℕ × ℚ)) (j : ℕ) → j ≢ p.0
    → coefficient (p ∷ es) j ≡ coefficient es j
coefficient_later p es j n = ap (λ b. unwrap_or (cond b (Some p.1) (find nat_cmp j es)) zero_ℚ) (untied j p.0 n)

pub coefficient_below : (low : ℕ) (es : List (ℕ × ℚ)) (j : ℕ) → j < low → RisesFrom low es
    → coefficient es j ≡ zero_ℚ
coefficient_below low [] j l r = refl
coefficient_below low (p ∷ es) j l r =
    coefficient_later p es j (λ e. absurd (let le : low ≤ p.0 = r.0 in omega arith))
    ∙ coefficient_below (p.0 + 1) es j (let le : low ≤ p.0 = r.0 in omega arith) r.2

pub length-with_terms : (sums : List ℚ) (m : ℚ) (es : List (ℕ × ℚ))
    → length (with_terms sums m es) ≡ length sums
unfolding with_terms
length-with_terms sums m [] = refl
length-with_terms sums m (p ∷ es) = length-with_terms (with_term sums m p) m es ∙ length-set sums p.0 _

-- a term changes one sum
changed_here : (sums : List ℚ) (m : ℚ) (p : ℕ × ℚ) (j : ℕ) → p.0 < length sums → j ≡ p.0
    → get_or (with_term sums m p) j zero_ℚ ≡ get_or sums j zero_ℚ +ℚ m *ℚ p.1
changed_here sums m p j l e = ap (λ k. get_or (with_term sums m p) k zero_ℚ) e
    ∙ get_or-set_same sums p.0 _ zero_ℚ l ∙ ap (λ k. get_or sums k zero_ℚ +ℚ m *ℚ p.1) (sym e)

changed_elsewhere : (sums : List ℚ) (m : ℚ) (p : ℕ × ℚ) (j : ℕ) → j ≢ p.0
    → get_or (with_term sums m p) j zero_ℚ ≡ get_or sums j zero_ℚ
changed_elsewhere sums m p j n = get_or-set_other sums p.0 j _ zero_ℚ n

still_within : (sums : List ℚ) (m : ℚ) (p : ℕ × ℚ) (es : List (ℕ × ℚ))
    → All (λ e. e.0 < length sums) (p ∷ es) → All (λ e. e.0 < length (with_term sums m p)) es
still_within sums m p es all = subst (λ n. All (λ e. e.0 < n) es) (sym (length-set sums p.0 _))
    (All-tail (λ e. e.0 < length sums) p es all)

pub terms_at : (low : ℕ) (sums : List ℚ) (m : ℚ) (es : List (ℕ × ℚ)) → RisesFrom low es
    → All (λ e. e.0 < length sums) es → (j : ℕ)
    → get_or (with_terms sums m es) j zero_ℚ ≡ get_or sums j zero_ℚ +ℚ m *ℚ coefficient es j
unfolding with_terms
terms_at low sums m [] r all j = sym (ap (λ x. get_or sums j zero_ℚ +ℚ x) (mul-zero_ℚ m) ∙ add-zero_ℚ _)
terms_at low sums m (p ∷ es) r all j = terms_at (p.0 + 1) (with_term sums m p) m es r.2
    (still_within sums m p es all) j ∙ by (cases_eq j p.0)
  where
    by : (j ≡ p.0) ⊎ (j ≢ p.0)
        → get_or (with_term sums m p) j zero_ℚ +ℚ m *ℚ coefficient es j ≡ get_or sums j zero_ℚ +ℚ m
        *ℚ coefficient (p ∷ es) j
    by (inl e) =
        let none = coefficient_below (p.0 + 1) es j (omega arith) r.2 in
        ap₂ (λ a b. a +ℚ m *ℚ b) (changed_here sums m p j (All-head (λ e. e.0 < length sums) p es all) e) none
        ∙ ap (λ x. get_or sums j zero_ℚ +ℚ m *ℚ p.1 +ℚ x) (mul-zero_ℚ m) ∙ add-zero_ℚ _
        ∙ ap (λ x. get_or sums j zero_ℚ +ℚ m *ℚ x) (sym (coefficient_here p es j e))
    by (inr n) = ap₂ (λ a b. a +ℚ m *ℚ b) (changed_elsewhere sums m p j n) (sym (coefficient_later p es j n))

-- at each variable a term fits
abbrev FitAll : List ℚ → ℚ → List (ℕ × ℚ) → Type 0
FitAll sums m es = (j : ℕ) → coefficient es j ≢ zero_ℚ → TermFits (get_or sums j zero_ℚ) m (coefficient es j)

module _ (sums : List ℚ) (m : ℚ) (p : ℕ × ℚ) (es : List (ℕ × ℚ)) (r : RisesFrom (p.0 + 1) es) where
  none_here : coefficient es p.0 ≡ zero_ℚ
  none_here = coefficient_below (p.0 + 1) es p.0 (omega arith) r

  -- the first term and the rest fit, or each variable's does
  fit_parts : (TermFits (get_or sums p.0 zero_ℚ) m p.1 × FitAll (with_term sums m p) m es) → FitAll sums m (p ∷ es)
  fit_parts h j n = by (cases_eq j p.0)
    where
      by : (j ≡ p.0) ⊎ (j ≢ p.0) → TermFits (get_or sums j zero_ℚ) m (coefficient (p ∷ es) j)
      by (inl e) = subst₂ (λ s c. TermFits s m c) (ap (λ k. get_or sums k zero_ℚ) (sym e))
          (sym (coefficient_here p es j e)) h.0
      by (inr d) = subst₂ (λ s c. TermFits s m c) (changed_elsewhere sums m p j d)
          (sym (coefficient_later p es j d)) (h.1 j (λ z. n (coefficient_later p es j d ∙ z)))

  parts_fit : p.1 ≢ zero_ℚ → FitAll sums m (p ∷ es) → TermFits (get_or sums p.0 zero_ℚ) m p.1
      × FitAll (with_term sums m p) m es
  parts_fit some h = grind (arith, coefficient_here, none_here, changed_elsewhere, coefficient_later)

pub fits_at : (low : ℕ) (sums : List ℚ) (m : ℚ) (es : List (ℕ × ℚ)) → RisesFrom low es
    → TermsFitIn sums m es ↔ FitAll sums m es
unfolding TermsFitIn
fits_at low sums m [] r = (λ h j n. absurd (n refl), λ h. tt)
fits_at low sums m (p ∷ es) r =
    let rest = fits_at (p.0 + 1) (with_term sums m p) m es r.2 in (
      λ h. fit_parts sums m p es r.2 (h.0, rest.0 h.1),
      λ h. let k = parts_fit sums m p es r.2 r.1 h in (k.0, rest.1 k.1),
    )

-- what holds of each listed entry holds of each coefficient that is not 0
module _ (P : ℕ → ℚ → Type 0) where
  entry_first : (p : ℕ × ℚ) (es : List (ℕ × ℚ)) → P p.0 p.1
      → ((j : ℕ) → coefficient es j ≢ zero_ℚ → P j (coefficient es j)) → (j : ℕ)
      → coefficient (p ∷ es) j ≢ zero_ℚ → P j (coefficient (p ∷ es) j)
  entry_first p es h rest j n = by (cases_eq j p.0)
    where
      by : (j ≡ p.0) ⊎ (j ≢ p.0) → P j (coefficient (p ∷ es) j)
      by (inl e) = subst₂ P (sym e) (sym (coefficient_here p es j e)) h
      by (inr d) = subst (P j) (sym (coefficient_later p es j d)) (rest j (λ z. n (coefficient_later p es j d ∙ z)))

  entry_rest : (p : ℕ × ℚ) (es : List (ℕ × ℚ)) → RisesFrom (p.0 + 1) es
      → ((j : ℕ) → coefficient (p ∷ es) j ≢ zero_ℚ → P j (coefficient (p ∷ es) j)) → (j : ℕ)
      → coefficient es j ≢ zero_ℚ → P j (coefficient es j)
  entry_rest p es r h j n =
      let apart : j ≢ p.0 = λ e. n (coefficient_below (p.0 + 1) es j (omega arith) r) in
      subst (P j) (coefficient_later p es j apart) (h j (λ z. n (sym (coefficient_later p es j apart) ∙ z)))

  pub entries_each : (low : ℕ) (es : List (ℕ × ℚ)) → RisesFrom low es → All (λ e. P e.0 e.1) es
      ↔ ((j : ℕ) → coefficient es j ≢ zero_ℚ → P j (coefficient es j))
  entries_each low [] r = (λ all j n. absurd (n refl), λ h. All-nil (λ (e : ℕ × ℚ). P e.0 e.1))
  entries_each low (p ∷ es) r =
      let rest = entries_each (p.0 + 1) es r.2 in (
        λ all. entry_first p es (All-head (λ (e : ℕ × ℚ). P e.0 e.1) p es all)
            (rest.0 (All-tail (λ (e : ℕ × ℚ). P e.0 e.1) p es all)),
        λ h. All-cons (λ (e : ℕ × ℚ). P e.0 e.1) p es
            (subst (P p.0) (coefficient_here p es p.0 refl)
            (h p.0 (λ z. r.1 (sym (coefficient_here p es p.0 refl) ∙ z))))
            (rest.1 (entry_rest p es r.2 h)),
      )

-- ---- the same of a row
module _ (row : Row) where
  pub coefficient_at : RisesFrom 0 (entries row) → (j : ℕ) → coefficient (entries row) j ≡ at row j
  coefficient_at r j =
      sym (ap (λ o. unwrap_or o zero_ℚ)
      (get-from_sorted nat_cmp (entries row) j (rises_sorted 0 (entries row) r)))
      ∙ ap (λ m. at m j) (row_again row)

  -- a row that names variables below n alone, by its entries
  pub below : (n : ℕ) → RisesFrom 0 (entries row) → NamesBelow n (at row) → All (λ e. e.0 < n) (entries row)
  below n r names = within 0 (entries row) r (λ j l. coefficient_at r j ∙ names j l)
    where
      within : (low : ℕ) (es : List (ℕ × ℚ)) → RisesFrom low es
          → ((j : ℕ) → n ≤ j → coefficient es j ≡ zero_ℚ) → All (λ e. e.0 < n) es
      within low [] r none = All-nil (λ e. e.0 < n)
      within low (p ∷ es) r none = All-cons (λ e. e.0 < n) p es (first (cases_lt p.0 n))
          (within (p.0 + 1) es r.2 (λ j l. later j l (cases_eq j p.0)))
        where
          first : (p.0 < n) ⊎ (n ≤ p.0) → p.0 < n
          first (inl l) = l
          first (inr past) = absurd (r.1 (sym (coefficient_here p es p.0 refl) ∙ none p.0 past))

          later : (j : ℕ) → n ≤ j → (j ≡ p.0) ⊎ (j ≢ p.0) → coefficient es j ≡ zero_ℚ
          later j l h = grind arith

  pub row_each : (P : ℕ → ℚ → Type 0) → RisesFrom 0 (entries row)
      → All (λ e. P e.0 e.1) (entries row) ↔ ((j : ℕ) → at row j ≢ zero_ℚ → P j (at row j))
  row_each P r =
      let each = entries_each P 0 (entries row) r in (
        λ all j n. subst (P j) (coefficient_at r j) (each.0 all j (λ z. n (sym (coefficient_at r j) ∙ z))),
        λ h. each.1 (λ j n. subst (P j) (sym (coefficient_at r j)) (h j (λ z. n (coefficient_at r j ∙ z)))),
      )

  pub names_known : (n : ℕ) → RisesFrom 0 (entries row) → All (λ e. e.0 < n) (entries row) ↔ NamesBelow n (at row)
  names_known n r = (
    λ all j past. zero (zero_or_not (at row j)) past ((row_each (λ j x. j < n) r).0 all j),
    λ names. below n r names,
  )
    where
      zero : {j : ℕ} → (at row j ≡ zero_ℚ) ⊎ ¬ (at row j ≡ zero_ℚ) → n ≤ j
          → (at row j ≢ zero_ℚ → j < n) → at row j ≡ zero_ℚ
      zero (inl e) past h = e
      zero (inr m) past h = absurd (let l = h m in omega (arith, l, past))

  pub row_terms_fit : (sums : List ℚ) (m : ℚ) → RisesFrom 0 (entries row)
      → TermsFitIn sums m (entries row)
      ↔ ((j : ℕ) → at row j ≢ zero_ℚ → TermFits (get_or sums j zero_ℚ) m (at row j))
  row_terms_fit sums m r =
      let f = fits_at 0 sums m (entries row) r in (
        λ h j n. subst (TermFits (get_or sums j zero_ℚ) m) (coefficient_at r j)
            (f.0 h j (λ z. n (sym (coefficient_at r j) ∙ z))),
        λ h. f.1 (λ j n. subst (TermFits (get_or sums j zero_ℚ) m) (sym (coefficient_at r j))
            (h j (λ z. n (coefficient_at r j ∙ z)))),
      )

  pub row_terms : (sums : List ℚ) (m : ℚ) → RisesFrom 0 (entries row)
      → All (λ e. e.0 < length sums) (entries row)
      → with_terms sums m (entries row) ≡ map (λ j. get_or sums j zero_ℚ +ℚ m *ℚ at row j)
      (range_with_len 0 (length sums))
  row_terms sums m r all = same_lists _ _ (length-with_terms sums m (entries row)
      ∙ sym (length-map-range_with_len _ 0 (length sums))) (λ k d l.
      let within : k < length sums = (let e = length-with_terms sums m (entries row) in omega (arith, e, l)) in
      get_or_default (with_terms sums m (entries row)) k d zero_ℚ l
      ∙ terms_at 0 sums m (entries row) r all k ∙ ap (λ c. get_or sums k zero_ℚ +ℚ m *ℚ c)
      (coefficient_at r k)
      ∙ sym (get_or-map-range_with_len (λ j. get_or sums j zero_ℚ +ℚ m *ℚ at row j) 0
      (length sums) k k d within (omega arith)))

-- ---- an entry with multiplier 0 changes nothing
pub suits_zero : (a : Accumulator) (e : Entry) → e.0 ≡ zero_ℚ → joined_with a e ≡ Some a.sense
suits_zero a e z = ap (sense_of_both a.sense) (turned_zero e.0 e.1.sense z) ∙ joined_equal a.sense

pub nothing_changes : (a : Accumulator) (e : Entry) → a.spent ≡ false → e.0 ≡ zero_ℚ
    → a ≡ with_entry a e
nothing_changes a e fresh z =
    λ i. record {
      sums = sums i;
      bound = sym (adds a.bound e.1.bound) i;
      sense = sym (ap (λ o. unwrap_or o equal) (suits_zero a e z)) i;
      spent = fresh i;
    }
  where
    adds : (s x : ℚ) → s +ℚ e.0 *ℚ x ≡ s
    adds s x = ap (λ m. s +ℚ m *ℚ x) z ∙ ap (λ y. s +ℚ y) (zero-mul_ℚ x) ∙ add-zero_ℚ s

    sums : a.sums ≡ map (λ j. sum_at a j +ℚ e.0 *ℚ e.1.row j) (range_with_len 0 (length a.sums))
    sums = same_lists _ _ (sym (length-map-range_with_len _ 0 (length a.sums))) (λ k d l.
        get_or_default a.sums k d zero_ℚ l ∙ sym (adds (sum_at a k) (e.1.row k))
        ∙ sym (get_or-map-range_with_len (λ j. sum_at a j +ℚ e.0 *ℚ e.1.row j) 0
        (length a.sums) k k d l (omega arith)))

-- sums that are all 0
pub zeros : (sums : List ℚ) (n : ℕ) → length sums ≡ n → ((j : ℕ) → get_or sums j zero_ℚ ≡ zero_ℚ)
    → sums ≡ replicate n zero_ℚ
zeros sums n e all = same_lists _ _ (e ∙ sym (length-replicate n zero_ℚ))
    (λ k d l. get_or_default sums k d zero_ℚ l ∙ all k
    ∙ sym (get_or-replicate n k zero_ℚ d (omega (arith, e, l))))

-- ---- whether a multiplier is 0, by its test
pub known_zero : (x : ℚ) (b : Bool) → b ≡ int_eq x.numer (pos 0) → b ≡ true → x ≡ zero_ℚ
known_zero x b e t = zero_from_numer x ((Decides-int_eq x.numer (pos 0)).0 (sym e ∙ t))

pub known_nonzero : (x : ℚ) (b : Bool) → b ≡ int_eq x.numer (pos 0) → b ≡ false → x ≢ zero_ℚ
known_nonzero x b e f z =
    let t = (Decides-int_eq x.numer (pos 0)).1 (ap (λ (y : ℚ). y.numer) z ∙ zero_numer) in
    absurd (cc)
