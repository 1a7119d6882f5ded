-- The rows of pairs: which variables they name, and their coefficients
use Rattle.std.proofs.Common.{arith, ◌≡◌, ◌≢◌, ℕ, Bool, cond, List, [], ◌∷◌, filter, All, refl, sym}
use Rattle.std.proofs.Common.{◌∙◌, subst}
use Rattle.std.proofs.lemmas.List.{nil_from_length}
use Rattle.std.proofs.lemmas.List.Elements.{All-nil, All-cons, All-head, All-tail}
use Rattle.std.specs.declared.cmp.Ordering.TheVariants.{Less, Equal, Greater}
use Rattle.std.specs.FinMap.{entries, empty, from_entries, put, entries-insert, len-entries}
use Rattle.std.specs.FinMap.{len-empty}
use Rattle.std.specs.{Cmp.nat_cmp_total, FinMap.Entries.by_order, Ordering.nat_cmp}
use Rattle.vipr_spec.specs.Fraction.{ℚ, zero_ℚ, IsBounded}
use Rattle.vipr_spec.specs.{Reading.is_nonzero, Reading.row_of, Shape.RowFits}
use Rattle.vipr_spec.proofs.Laws.{not_zero}

-- ---- the coefficients
module _ (P : ℚ → Type 0) where
  abbrev Has : ℕ × ℚ → Type 0
  Has e = P e.1

  put_has : (k : ℕ) (v : ℚ) (es : List (ℕ × ℚ)) → P v → All Has es → All Has (put nat_cmp k v es)
  put_has k v [] h a = All-cons Has (k, v) [] h (All-nil Has)
  put_has k v (e ∷ es) h a =
      let rest = put_has k v es h (All-tail Has e es a) in
      elim (nat_cmp k e.0) as (λ r. All Has (by_order r ((k, v) ∷ e ∷ es) ((e.0, v) ∷ es) (e ∷ put nat_cmp k v es))) [
        | Less ↦ All-cons Has (k, v) (e ∷ es) h a
        | Equal ↦ All-cons Has (e.0, v) es h (All-tail Has e es a)
        | Greater ↦ All-cons Has e (put nat_cmp k v es) (All-head Has e es a) rest
      ]

  nothing : entries (empty {X = ℚ} {R = nat_cmp}) ≡ []
  nothing = nil_from_length _ (sym (len-entries (empty {X = ℚ} {R = nat_cmp})) ∙ len-empty nat_cmp ℚ)

  entries_have : (es : List (ℕ × ℚ)) → All Has es → All Has (entries (from_entries {R = nat_cmp} es))
  entries_have [] a = subst (All Has) (sym nothing) (All-nil Has)
  entries_have (e ∷ es) a =
      subst (All Has) (sym (entries-insert nat_cmp_total (from_entries es) e.0 e.1))
      (put_has e.0 e.1 (entries (from_entries es)) (All-head Has e es a) (entries_have es (All-tail Has e es a)))

abbrev Fits : ℚ → Type 0
Fits x = (x ≢ zero_ℚ) × IsBounded x

fit_by : (p : ℕ × ℚ) (ps : List (ℕ × ℚ)) (b : Bool) → is_nonzero p ≡ b → IsBounded p.1
    → All (λ e. Fits e.1) ps → All (λ e. Fits e.1) (cond b (p ∷ ps) ps)
fit_by p ps b t h a = grind (arith, not_zero)

kept_fit : (ps : List (ℕ × ℚ)) → All (λ p. IsBounded p.1) ps
    → All (λ e. Fits e.1) (filter is_nonzero ps)
kept_fit [] a = All-nil (λ (e : ℕ × ℚ). Fits e.1)
kept_fit (p ∷ ps) a = fit_by p (filter is_nonzero ps) (is_nonzero p) refl
    (All-head (λ (e : ℕ × ℚ). IsBounded e.1) p ps a)
    (kept_fit ps (All-tail (λ (e : ℕ × ℚ). IsBounded e.1) p ps a))

-- the row of pairs with bounded coefficients keeps those that are not 0
pub row_fits : (ps : List (ℕ × ℚ)) → All (λ p. IsBounded p.1) ps → RowFits (row_of ps)
row_fits ps a = entries_have Fits (filter is_nonzero ps) (kept_fit ps a)
