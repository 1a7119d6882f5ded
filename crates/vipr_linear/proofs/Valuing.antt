-- The value of a row, summed over its listed entries
use Rattle.std.proofs.Common.{◌≡◌, ◌≢◌, ℕ, ◌+◌, ◌<◌, ◌≤◌, true, false, List, [], ◌∷◌, length}
use Rattle.std.proofs.Common.{get_or, drop, Result, IfOk, arith, refl, sym, ◌∙◌, ap, ap₂}
use Rattle.std.proofs.Common.{subst, subst₂, ◌⊎◌, inl, inr, add-one}
use Rattle.std.proofs.{lemmas.Bool.cases_eq, lemmas.Bool.cases_lt, lemmas.List.drop_all}
use Rattle.std.specs.{FinMap.entries, Prelude.◌↔◌}
use Rattle.vipr_spec.specs.Fraction.{ℚ, zero_ℚ, ◌+ℚ◌, ◌*ℚ◌, IsBounded, ProductFits, SumFits}
use Rattle.vipr_spec.specs.Constraint.{Row, Point, at, value, ValueFits, NamesBelow}
use Rattle.vipr_spec.specs.MoreEntries.{TermFits}
use Rattle.vipr_spec.proofs.Laws.{value_gap, zero_bounded, sum_bounded, nothing_more}
use Rattle.vipr_linear.specs.{Row.RisesFrom, Values.with_values, Values.ValuesFit}
use Rattle.vipr_linear.proofs.Adding.{coefficient, coefficient_here, coefficient_later}
use Rattle.vipr_linear.proofs.Adding.{coefficient_below, coefficient_at}
use Rattle.vipr_linear.proofs.Marks.{next}

-- ---- one turn of the loop over the entries
module _ (first : Type 0) (s : ℚ) (x : Point) (es : List (ℕ × ℚ)) (i : ℕ) (p : ℕ × ℚ)
    (l : i < length es) (e : p ≡ get_or es i p) (known : first ↔ ValuesFit s (drop i es) x)
    (c product : ℚ) (q : c ≡ x p.0) where
  next_fits : ValuesFit s (drop i es) x
      ↔ ((ProductFits p.1 (x p.0) × SumFits s (p.1 *ℚ x p.0)) × ValuesFit (s +ℚ p.1 *ℚ x p.0)
      (drop (i + 1) es) x)
  unfolding ValuesFit
  next_fits = (
    λ h. subst (λ ys. ValuesFit s ys x) (next es i p l e) h,
    λ h. subst (λ ys. ValuesFit s ys x) (sym (next es i p l e)) h,
  )

  next_value : with_values s (drop i es) x ≡ with_values (s +ℚ p.1 *ℚ x p.0) (drop (i + 1) es) x
  unfolding with_values
  next_value = ap (λ ys. with_values s ys x) (next es i p l e)

  pub product_refused : (ProductFits p.1 c → false ≡ true) → ¬ first
  product_refused refused h =
      absurd (let t = refused (subst (ProductFits p.1) (sym q) (next_fits.0 (known.0 h)).0.0) in cc)

  module _ (r : product ≡ p.1 *ℚ c) where
    product_is : product ≡ p.1 *ℚ x p.0
    product_is = r ∙ ap (λ y. p.1 *ℚ y) q

    pub sum_refused : (SumFits s product → false ≡ true) → ¬ first
    sum_refused refused h =
        absurd (let t = refused (subst (SumFits s) (sym product_is) (next_fits.0 (known.0 h)).0.1)
        in cc)

    module _ (new : ℚ) (t : new ≡ s +ℚ product) where
      new_is : new ≡ s +ℚ p.1 *ℚ x p.0
      new_is = t ∙ ap (λ y. s +ℚ y) product_is

      pub fits_on : ProductFits p.1 c → SumFits s product → first ↔ ValuesFit new (drop (i + 1) es) x
      fits_on a b = (
        λ h. subst (λ v. ValuesFit v (drop (i + 1) es) x) (sym new_is) (next_fits.0 (known.0 h)).1,
        λ h. known.1
            (next_fits.1 (
              (subst (ProductFits p.1) q a, subst (SumFits s) product_is b),
              subst (λ v. ValuesFit v (drop (i + 1) es) x) new_is h,
            )),
      )

      pub value_on : with_values new (drop (i + 1) es) x ≡ with_values s (drop i es) x
      value_on = ap (λ v. with_values v (drop (i + 1) es) x) new_is ∙ sym next_value

pub all_fit : (s : ℚ) (x : Point) (es : List (ℕ × ℚ)) (i : ℕ) → length es ≤ i
    → ValuesFit s (drop i es) x
unfolding ValuesFit
all_fit s x es i h = subst (λ ys. ValuesFit s ys x) (sym (drop_all i es h)) tt

pub no_more : (s : ℚ) (x : Point) (es : List (ℕ × ℚ)) (i : ℕ) → length es ≤ i
    → with_values s (drop i es) x ≡ s
unfolding with_values
no_more s x es i h = ap (λ ys. with_values s ys x) (drop_all i es h)

-- ---- entries from some variable on, and the row as a function
module _ (n : ℕ) (row : ℕ → ℚ) (x : Point) (below : (j : ℕ) → n ≤ j → row j ≡ zero_ℚ) where
  -- the rest of the row is that of the entries
  abbrev Agrees : ℕ → List (ℕ × ℚ) → Type 0
  Agrees low es = (j : ℕ) → low ≤ j → row j ≡ coefficient es j

  abbrev FitFrom : ℕ → Type 0
  FitFrom low = (j : ℕ) → low ≤ j → j < n → TermFits (value j row x) (row j) (x j)

  module _ (low : ℕ) (p : ℕ × ℚ) (es : List (ℕ × ℚ)) (r : RisesFrom low (p ∷ es)) (agrees : Agrees low (p ∷ es)) where
    le : low ≤ p.0
    le = r.0

    zero_between : (j : ℕ) → low ≤ j → j < p.0 → row j ≡ zero_ℚ
    zero_between j a l = agrees j a ∙ coefficient_later p es j (λ e. absurd (omega (arith, e, l)))
        ∙ coefficient_below (p.0 + 1) es j (omega arith) r.2

    row_here : row p.0 ≡ p.1
    row_here = agrees p.0 r.0 ∙ coefficient_here p es p.0 refl

    within : p.0 < n
    within = elim (cases_lt p.0 n) [ inl l ↦ l | inr past ↦ absurd (r.1 (sym row_here ∙ below p.0 past)) ]

    value_here : value p.0 row x ≡ value low row x
    value_here = value_gap low p.0 row x le zero_between

    value_after : value (p.0 + 1) row x ≡ value low row x +ℚ p.1 *ℚ x p.0
    value_after = ap (λ k. value k row x) (add-one p.0) ∙ ap₂ (λ v c. v +ℚ c *ℚ x p.0) value_here row_here

    agrees_after : Agrees (p.0 + 1) es
    agrees_after j a = agrees j (let h : low ≤ p.0 = r.0 in omega arith)
        ∙ coefficient_later p es j (λ e. absurd (omega (arith, e, a)))

    fit_there : IsBounded (value low row x)
        → (ProductFits p.1 (x p.0) × SumFits (value low row x) (p.1 *ℚ x p.0)) × FitFrom (p.0 + 1)
        → FitFrom low
    fit_there b h j a l = by (cases_lt j p.0) (cases_eq j p.0)
      where
        by : (j < p.0) ⊎ (p.0 ≤ j) → (j ≡ p.0) ⊎ (j ≢ p.0) → TermFits (value j row x) (row j) (x j)
        by (inl before) e =
            nothing_more (value j row x) (row j) (x j)
            (subst IsBounded
            (sym (value_gap low j row x a (λ k c d. zero_between k c (omega arith)))) b)
            (inl (zero_between j a before))
        by (inr k) (inl e) = subst (λ k. TermFits (value k row x) (row k) (x k)) (sym e)
            (subst₂ (λ v c. TermFits v c (x p.0)) (sym value_here) (sym row_here) h.0)
        by (inr k) (inr d) = h.1 j (omega arith) l

    fit_back : FitFrom low → (ProductFits p.1 (x p.0) × SumFits (value low row x) (p.1 *ℚ x p.0)) × FitFrom (p.0 + 1)
    fit_back h = (
      subst₂ (λ v c. TermFits v c (x p.0)) value_here row_here (h p.0 le within),
      λ j a l. h j (let k = le in omega arith) l,
    )

  listed_value : (low : ℕ) (es : List (ℕ × ℚ)) → RisesFrom low es → Agrees low es → low ≤ n
      → with_values (value low row x) es x ≡ value n row x
  unfolding with_values
  listed_value low [] r agrees l = sym (value_gap low n row x l (λ j a b. agrees j a))
  listed_value low (p ∷ es) r agrees l =
      ap (λ v. with_values v es x) (sym (value_after low p es r agrees))
      ∙ listed_value (p.0 + 1) es r.2 (agrees_after low p es r agrees)
      (let h = within low p es r agrees in omega (arith, h))

  listed_fits : (low : ℕ) (es : List (ℕ × ℚ)) → RisesFrom low es → Agrees low es
      → IsBounded (value low row x) → ValuesFit (value low row x) es x ↔ FitFrom low
  unfolding ValuesFit
  listed_fits low [] r agrees b = (
    λ h j a l. nothing_more (value j row x) (row j) (x j)
        (subst IsBounded (sym (value_gap low j row x a (λ k c d. agrees k c))) b)
        (inl (agrees j a)),
    λ h. tt,
  )
  listed_fits low (p ∷ es) r agrees b =
      let after = value_after low p es r agrees in
      let rest : IsBounded (value (p.0 + 1) row x) → ValuesFit (value (p.0 + 1) row x) es x
      ↔ FitFrom (p.0 + 1) = listed_fits (p.0 + 1) es r.2 (agrees_after low p es r agrees) in
      let bounded : SumFits (value low row x) (p.1 *ℚ x p.0) → IsBounded (value (p.0 + 1) row x) =
      λ f. subst IsBounded (sym after) (sum_bounded _ _ f) in (
        λ h. fit_there low p es r agrees b
            (h.0, (rest (bounded h.0.1)).0 (subst (λ v. ValuesFit v es x) (sym after) h.1)),
        λ h. let k = fit_back low p es r agrees h in
            (k.0, subst (λ v. ValuesFit v es x) after ((rest (bounded k.0.1)).1 k.1)),
      )

-- ---- a row's value
module _ (row : Row) (x : Point) (n : ℕ) (r : RisesFrom 0 (entries row)) (names : NamesBelow n (at row)) where
  pub row_value : with_values zero_ℚ (entries row) x ≡ value n (at row) x
  row_value = listed_value n (at row) x names 0 (entries row) r (λ j a. sym (coefficient_at row r j)) (omega arith)

  pub row_fits : ValuesFit zero_ℚ (entries row) x ↔ ValueFits n (at row) x
  row_fits =
      let f = listed_fits n (at row) x names 0 (entries row) r (λ j a. sym (coefficient_at row r j)) zero_bounded in
      (λ h j l. f.0 h j (omega arith) l, λ h. f.1 (λ j a l. h j l))

pub if_ok : {A E : Type 0} (v w : A) (t : Result A E) → v ≡ w → IfOk t (λ y. y ≡ v)
    → IfOk t (λ y. y ≡ w)
if_ok v w t e h = grind arith
