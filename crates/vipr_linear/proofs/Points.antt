-- A solution laid out over places, and its coordinates that aren't whole
use Rattle.std.proofs.Common.{◌≡◌, ◌≢◌, ℕ, zero, suc, ◌+◌, ◌<◌, ◌≤◌, replicate, drop, List, [], ◌∷◌}
use Rattle.std.proofs.Common.{length, get_or, pos, arith, refl, sym, ◌∙◌, ap, ap₂, subst}
use Rattle.std.proofs.Common.{◌⊎◌, inl, inr}
use Rattle.std.specs.{FinMap.entries, Prelude.◌↔◌, Prelude.slice_set}
use Rattle.std.proofs.lemmas.Bool.{cases_eq, cases_lt}
use Rattle.std.proofs.lemmas.List.{get_or-set_same, get_or-set_other, get_or-replicate, get_or_past}
use Rattle.std.proofs.lemmas.List.{length-set, length-replicate, set_past, drop_all}
use Rattle.vipr_spec.specs.Fraction.{ℚ, zero_ℚ, ◌+ℚ◌, ◌*ℚ◌, IsWhole}
use Rattle.vipr_spec.specs.Constraint.{Row, Point, at, value, ValueFits, Ints, IsInteger}
use Rattle.vipr_linear.specs.Row.{RisesFrom}
use Rattle.vipr_linear.specs.Values.{with_set, point_of, IsLaidOut, AreWhole, IsFirstFractional}
use Rattle.vipr_linear.proofs.Adding.{coefficient, coefficient_here, coefficient_later}
use Rattle.vipr_linear.proofs.Adding.{coefficient_below, coefficient_at}
use Rattle.vipr_linear.proofs.{Marks.next, Rows.rises_from, Searching.at_place}

-- ---- places that are set
pub length-with_set : (xs : List ℚ) (es : List (ℕ × ℚ)) → length (with_set xs es) ≡ length xs
unfolding with_set
length-with_set xs [] = refl
length-with_set xs (p ∷ ps) = length-with_set (slice_set xs p.0 p.1) ps ∙ length-set xs p.0 p.1

module _ (xs : List ℚ) (es : List (ℕ × ℚ)) (i : ℕ) (p : ℕ × ℚ) (l : i < length es) (e : p ≡ get_or es i p) where
  pub next_set : with_set xs (drop i es) ≡ with_set (slice_set xs p.0 p.1) (drop (i + 1) es)
  unfolding with_set
  next_set = ap (with_set xs) (next es i p l e)

  pub next_left_out : length xs ≤ p.0 → with_set xs (drop i es) ≡ with_set xs (drop (i + 1) es)
  next_left_out past = next_set ∙ ap (λ ys. with_set ys (drop (i + 1) es)) (set_past xs p.0 p.1 past)

pub none_left : (xs : List ℚ) (es : List (ℕ × ℚ)) (i : ℕ) → length es ≤ i
    → with_set xs (drop i es) ≡ xs
unfolding with_set
none_left xs es i h = ap (with_set xs) (drop_all i es h)

-- a place below the entries stays
set_below : (low : ℕ) (xs : List ℚ) (es : List (ℕ × ℚ)) (j : ℕ) → RisesFrom low es → j < low
    → get_or (with_set xs es) j zero_ℚ ≡ get_or xs j zero_ℚ
unfolding with_set
set_below low xs [] j r l = refl
set_below low xs (p ∷ ps) j r l =
    grind (
      arith,
      set_below (p.0 + 1) (slice_set xs p.0 p.1) ps j r.2 (omega (arith, r.0, l)),
      get_or-set_other,
    )

-- over places that are 0, each has its coefficient
set_at : (low : ℕ) (xs : List ℚ) (es : List (ℕ × ℚ)) (j : ℕ) → RisesFrom low es → low ≤ j
    → j < length xs → ((k : ℕ) → low ≤ k → get_or xs k zero_ℚ ≡ zero_ℚ)
    → get_or (with_set xs es) j zero_ℚ ≡ coefficient es j
unfolding with_set
set_at low xs [] j r a l none = none j a
set_at low xs (p ∷ ps) j r a l none =
    let within : j < length (slice_set xs p.0 p.1) = (let s = length-set xs p.0 p.1 in omega (arith, s, l)) in
    by (cases_lt j p.0) (cases_eq j p.0)
    (λ later. set_at (p.0 + 1) (slice_set xs p.0 p.1) ps j r.2 later within
    (λ k b. get_or-set_other xs p.0 k p.1 zero_ℚ (λ e. absurd (omega (arith, b, e)))
    ∙ none k (let h : low ≤ p.0 = r.0 in omega (arith, b, h))))
  where
    by : (j < p.0) ⊎ (p.0 ≤ j) → (j ≡ p.0) ⊎ (j ≢ p.0)
        → (p.0 + 1 ≤ j → get_or (with_set (slice_set xs p.0 p.1) ps) j zero_ℚ ≡ coefficient ps j)
        → get_or (with_set (slice_set xs p.0 p.1) ps) j zero_ℚ ≡ coefficient (p ∷ ps) j
    by x (inl e) further =
        let within : p.0 < length xs = omega (arith, e, l) in
        set_below (p.0 + 1) (slice_set xs p.0 p.1) ps j r.2 (omega (arith, e))
        ∙ ap (λ k. get_or (slice_set xs p.0 p.1) k zero_ℚ) e
        ∙ get_or-set_same xs p.0 p.1 zero_ℚ within ∙ sym (coefficient_here p ps j e)
    by (inl before) (inr n) further =
        set_below (p.0 + 1) (slice_set xs p.0 p.1) ps j r.2 (omega (arith, before))
        ∙ get_or-set_other xs p.0 j p.1 zero_ℚ n ∙ none j a
        ∙ sym (coefficient_later p ps j n ∙ coefficient_below (p.0 + 1) ps j (omega (arith, before)) r.2)
    by (inr past) (inr n) further =
        let later : p.0 + 1 ≤ j = omega (arith, past, n) in further later ∙ sym (coefficient_later p ps j n)

pub laid_out : (n : ℕ) (row : Row) (es : List (ℕ × ℚ)) (old xs : List ℚ) → es ≡ entries row
    → RisesFrom 0 es → old ≡ replicate n zero_ℚ → xs ≡ with_set old es → IsLaidOut n (at row) xs
laid_out n row es old xs list rising start set =
    grind (
      arith,
      length-with_set,
      length-replicate,
      set_at,
      coefficient_at,
      get_or-replicate,
      get_or_past,
    )

-- ---- coordinates that aren't whole
whole_zero : IsWhole zero_ℚ
whole_zero = (pos 0, refl)

rises_drop : (low : ℕ) (es : List (ℕ × ℚ)) (i : ℕ) → RisesFrom low es → RisesFrom low (drop i es)
rises_drop low es zero r = r
rises_drop low [] (suc i) r = tt
rises_drop low (e ∷ es) (suc i) r = rises_from low (e.0 + 1) (drop i es) (let h : low ≤ e.0 = r.0 in
    omega (arith, h)) (rises_drop (e.0 + 1) es i r.2)

-- an integer variable is whole, or stands among the entries that are left
abbrev pub WholeOrLeft : Ints → Row → List (ℕ × ℚ) → Type 0
WholeOrLeft integers row es = (j : ℕ) → IsInteger integers j → IsWhole (at row j) ⊎ (at row j ≡ coefficient es j)

module _ (integers : Ints) (row : Row) (es : List (ℕ × ℚ)) (r : RisesFrom 0 es) (list : es ≡ entries row) where
  is_listed : (j : ℕ) → coefficient es j ≡ at row j
  is_listed j = ap (λ xs. coefficient xs j) list ∙ coefficient_at row (subst (RisesFrom 0) list r) j

  pub all_left : WholeOrLeft integers row es
  all_left j integer = inr (sym (is_listed j))

  pub none_left_whole : (i : ℕ) → length es ≤ i → WholeOrLeft integers row (drop i es) → AreWhole integers row
  none_left_whole i past h j integer = grind (arith, drop_all)

  module _ (i : ℕ) (p : ℕ × ℚ) (l : i < length es) (e : p ≡ get_or es i p)
      (h : WholeOrLeft integers row (drop i es)) where
    rest : drop i es ≡ p ∷ drop (i + 1) es
    rest = next es i p l e

    pub one_less : (IsWhole p.1 ⊎ ¬ IsInteger integers p.0) → WholeOrLeft integers row (drop (i + 1) es)
    one_less fine j integer = elim (h j integer) [
      | inl w ↦ inl w
      | inr at_rest ↦ by (at_rest ∙ ap (λ xs. coefficient xs j) rest) (cases_eq j p.0)
    ]
      where
        by : at row j ≡ coefficient (p ∷ drop (i + 1) es) j → (j ≡ p.0) ⊎ (j ≢ p.0)
            → IsWhole (at row j) ⊎ (at row j ≡ coefficient (drop (i + 1) es) j)
        by k (inl same) = elim fine [
          | inl w ↦ inl (subst IsWhole (sym (k ∙ coefficient_here p (drop (i + 1) es) j same)) w)
          | inr out ↦ absurd (out (subst (IsInteger integers) same integer))
        ]
        by k (inr apart) = inr (k ∙ coefficient_later p (drop (i + 1) es) j apart)

    pub first_found : IsInteger integers p.0 → ¬ IsWhole p.1 → IsFirstFractional integers row p
    first_found integer fractional = record {
      integer = integer;
      coordinate = sym (is_listed p.0) ∙ ap (coefficient es) (ap (λ (q : ℕ × ℚ). q.0) e)
          ∙ at_place 0 es i p r l ∙ ap (λ (q : ℕ × ℚ). q.1) (sym e);
      fractional = fractional;
      least = λ j below whole. elim (h j whole) [
        | inl w ↦ w
        | inr at_rest ↦ subst IsWhole (sym (at_rest ∙ coefficient_below p.0 (drop i es) j below from_here)) whole_zero
      ];
    }
      where
        from_here : RisesFrom p.0 (drop i es)
        from_here =
            let s = subst (RisesFrom 0) rest (rises_drop 0 es i r) in
            subst (RisesFrom p.0) (sym rest) (omega arith, s.1, s.2)

-- ---- points that agree below n
point_value : (n : ℕ) (row x y : ℕ → ℚ) → ((j : ℕ) → j < n → x j ≡ y j)
    → value n row x ≡ value n row y
point_value zero row x y same = refl
point_value (suc n) row x y same =
    ap₂ (λ v c. v +ℚ row n *ℚ c) (point_value n row x y (λ j l. same j (omega arith)))
    (same n (omega arith))

point_fits : (n : ℕ) (row x y : ℕ → ℚ) → ((j : ℕ) → j < n → x j ≡ y j) → ValueFits n row x
    → ValueFits n row y
point_fits n row x y same h j l = grind (arith, point_value)

module _ (n : ℕ) (x : Point) (xs : List ℚ) (laid : IsLaidOut n x xs) (row : ℕ → ℚ) where
  pub laid_value : value n row (point_of xs) ≡ value n row x
  laid_value = point_value n row (point_of xs) x laid.coordinates

  pub laid_fits : ValueFits n row (point_of xs) ↔ ValueFits n row x
  laid_fits = (
    point_fits n row (point_of xs) x laid.coordinates,
    point_fits n row x (point_of xs)
        (λ j l. sym (laid.coordinates j l)),
  )
