-- Adding entries one after the other gives their sum: what is suitable, what fits, and what is held
use Rattle.std.proofs.Common.{◌≡◌, ℕ, ◌<◌, ◌≤◌, List, [], ◌∷◌, ◌++◌, length, get_or, replicate}
use Rattle.std.proofs.Common.{Option, Some, None, IsSome, is_some, unwrap_or, arith, refl, sym, ◌∙◌}
use Rattle.std.proofs.Common.{ap, ap₂, subst, ◌⊎◌, inl, inr}
use Rattle.std.proofs.lemmas.List.{get_or-replicate, get_or_past, length-replicate}
use Rattle.std.proofs.lemmas.List.FromFn.{get_or-map-range_with_len, length-map-range_with_len}
use Rattle.std.proofs.{lemmas.Bool.cases_lt, lemmas.List.Elements.All-nil}
use Rattle.std.specs.Prelude.{◌↔◌}
use Rattle.vipr_spec.specs.Fraction.{ℚ, zero_ℚ, ◌+ℚ◌, ◌*ℚ◌, IsBounded, ProductFits}
use Rattle.vipr_spec.specs.Constraint.{Sense, equal, Row, at, Entry, HasSense, sum_of, SumOfFits}
use Rattle.vipr_spec.specs.Constraint.{NamesBelow}
use Rattle.vipr_spec.specs.MoreEntries.{sense_of_multiple, TermFits}
use Rattle.vipr_spec.proofs.Laws.{zero-add_ℚ, mul-zero_ℚ, zero_or_not, no_sense, turned_sense}
use Rattle.vipr_spec.proofs.Laws.{joined_sense, clashing_senses, sum_more, fits_more, sums_bounded}
use Rattle.vipr_spec.proofs.Laws.{nothing_more}
use Rattle.vipr_linear.specs.Accumulator.{Accumulator, held_condition, sum_at, nothing_added}
use Rattle.vipr_linear.specs.Accumulator.{joined_with, AdditionFits, with_entry, Holds, IsSuitable}
use Rattle.vipr_linear.specs.Accumulator.{HoldsSum}

-- ---- what fits
module _ (n : ℕ) (es : List Entry) (e : Entry) (a : Accumulator) (h : Holds n es a) where
  terms_known : (((j : ℕ) → TermFits (sum_at a j) e.0 (e.1.row j)) × TermFits a.bound e.0 e.1.bound)
      ↔ SumOfFits (es ++ e ∷ [])
  terms_known = grind (arith, fits_more es e)

  sum_bounded : (j : ℕ) → IsBounded (sum_at a j)
  sum_bounded j = subst IsBounded (sym (h.row_is j)) ((sums_bounded es h.fits).0 j)

  bound_bounded : IsBounded a.bound
  bound_bounded = subst IsBounded (sym h.bound_is) (sums_bounded es h.fits).1

  pub fits_known : AdditionFits a e ↔ SumOfFits (es ++ e ∷ [])
  fits_known = (
    λ f. terms_known.0 (all_terms f (zero_or_not e.0)),
    λ k m. let t =
        terms_known.1 k in (λ j some. t.0 j, t.1),
  )
    where
      all_terms : AdditionFits a e → (e.0 ≡ zero_ℚ) ⊎ ¬ (e.0 ≡ zero_ℚ)
          → ((j : ℕ) → TermFits (sum_at a j) e.0 (e.1.row j)) × TermFits a.bound e.0 e.1.bound
      all_terms f (inl z) = (
        λ j. nothing_more (sum_at a j) e.0 (e.1.row j) (sum_bounded j) (inl z),
        nothing_more a.bound e.0 e.1.bound bound_bounded (inl z),
      )
      all_terms f (inr m) = (λ j. term_at j (zero_or_not (e.1.row j)), (f m).1)
        where
          term_at : (j : ℕ) → (e.1.row j ≡ zero_ℚ) ⊎ ¬ (e.1.row j ≡ zero_ℚ) → TermFits (sum_at a j) e.0 (e.1.row j)
          term_at j (inl z) = nothing_more (sum_at a j) e.0 (e.1.row j) (sum_bounded j) (inr z)
          term_at j (inr some) = (f m).0 j some

-- ---- one step
module _ (n : ℕ) (es : List Entry) (e : Entry) (a : Accumulator) (h : Holds n es a) where
  new_sense : (t : Sense) → joined_with a e ≡ Some t → HasSense (es ++ e ∷ []) t
  new_sense t is = joined_sense es (e ∷ []) a.sense (sense_of_multiple e.0 e.1.sense) t h.sense_is
      (turned_sense e.0 e.1) is

  pub suitable_known : IsSome (joined_with a e) ↔ IsSuitable (es ++ e ∷ [])
  suitable_known = (
    by (joined_with a e) refl,
    λ k. let is = clashing_senses es (e ∷ []) a.sense
        (sense_of_multiple e.0 e.1.sense) k.0 h.sense_is (turned_sense e.0 e.1) k.1 in ap is_some is,
  )
    where
      by : (o : Option Sense) → joined_with a e ≡ o → IsSome o → IsSuitable (es ++ e ∷ [])
      by (Some t) is some = (t, new_sense t is)
      by None is some = absurd (cc)

  sense_held : (o : Option Sense) → joined_with a e ≡ o → IsSome o → HasSense (es ++ e ∷ []) (unwrap_or o equal)
  sense_held o is some = grind (arith, new_sense)

  pub step_held : NamesBelow n e.1.row → IsSome (joined_with a e) → AdditionFits a e
      → Holds n (es ++ e ∷ []) (with_entry a e)
  step_held names some fit = record {
    variables = length-map-range_with_len _ 0 (length a.sums) ∙ h.variables;
    fresh = refl;
    row_is = λ j. new_row j (cases_lt j (length a.sums))
        ∙ ap (λ s. s +ℚ e.0 *ℚ e.1.row j) (h.row_is j)
        ∙ sym (sum_more (λ e. e.0 *ℚ e.1.row j) es e);
    bound_is = ap (λ s. s +ℚ e.0 *ℚ e.1.bound) h.bound_is ∙ sym (sum_more (λ e. e.0 *ℚ e.1.bound) es e);
    sense_is = sense_held (joined_with a e) refl some;
    fits = (fits_known n es e a h).0 fit;
  }
    where
      new_row : (j : ℕ) → (j < length a.sums) ⊎ (length a.sums ≤ j)
          → sum_at (with_entry a e) j ≡ sum_at a j +ℚ e.0 *ℚ e.1.row j
      new_row j (inl l) = get_or-map-range_with_len (λ j. sum_at a j +ℚ e.0 *ℚ e.1.row j) 0
          (length a.sums) j j zero_ℚ l (omega arith)
      new_row j (inr past) =
          get_or_past (with_entry a e).sums j zero_ℚ
          (let m = length-map-range_with_len (λ j. sum_at a j +ℚ e.0 *ℚ e.1.row j) 0
          (length a.sums) in omega (arith, m, past))
          ∙ sym (ap₂ (λ s c. s +ℚ e.0 *ℚ c) (get_or_past a.sums j zero_ℚ past)
          (names j (let v = h.variables in omega (arith, v, past))) ∙ zero-add_ℚ _
          ∙ mul-zero_ℚ e.0)

pub start_held : (n : ℕ) → Holds n [] (nothing_added n)
start_held n = record {
  variables = length-replicate n zero_ℚ;
  fresh = refl;
  row_is = λ j. at j (cases_lt j n);
  bound_is = refl;
  sense_is = no_sense;
  fits = (λ j. (All-nil (λ t. ProductFits t.0 t.1), tt), (All-nil (λ t. ProductFits t.0 t.1), tt));
}
  where
    at : (j : ℕ) → (j < n) ⊎ (n ≤ j) → get_or (replicate n zero_ℚ) j zero_ℚ ≡ zero_ℚ
    at j (inl l) = get_or-replicate n j zero_ℚ zero_ℚ l
    at j (inr past) = get_or_past (replicate n zero_ℚ) j zero_ℚ
        (let e = length-replicate n zero_ℚ in omega (arith, e, past))

pub sum_held : (n : ℕ) (es : List Entry) (a : Accumulator) (row : Row) (s : Sense) (b : ℚ)
    → Holds n es a → HoldsSum a row s b
    → HasSense es s × (record { row = at row; sense = s; bound = b } ≡ sum_of es s)
sum_held n es a row s b h k = grind arith

-- what the sum says is the sum of the entries that it holds
pub held_sum : (n : ℕ) (es : List Entry) (a : Accumulator) → Holds n es a
    → HasSense es a.sense × (held_condition a ≡ sum_of es a.sense)
held_sum n es a h = (h.sense_is, λ i. record { row = λ j. h.row_is j i; sense = a.sense; bound = h.bound_is i })

-- and so does a constraint that it is laid out as
pub laid_out : (a : Accumulator) (row : Row) (s : Sense) (b : ℚ) → HoldsSum a row s b
    → record { row = at row; sense = s; bound = b } ≡ held_condition a
laid_out a row s b k = λ i. record { row = λ j. k.row_is j i; sense = k.sense_is i; bound = k.bound_is i }
