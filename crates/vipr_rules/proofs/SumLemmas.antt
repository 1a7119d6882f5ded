-- What is held of a sum: an entry with the multiplier 0 changes nothing, and a sum of true entries
-- is true.
use Rattle.std.proofs.Common.{◌≡◌, ℕ, List, [], ◌∷◌, ◌++◌, All, refl, sym, ◌∙◌, ap, subst}
use Rattle.std.proofs.lemmas.List.Elements.{All-nil, All-cons, All-append}
use Rattle.vipr_spec.specs.Fraction.{ℚ, zero_ℚ, ◌+ℚ◌, ◌*ℚ◌}
use Rattle.vipr_spec.specs.Constraint.{equal, Condition, Entry, Point, sum_over, HasSense, IsTrueAt}
use Rattle.vipr_spec.proofs.Laws.{add-zero_ℚ, zero-mul_ℚ, joined_sense, turned_sense, sum_more}
use Rattle.vipr_spec.proofs.Laws.{IsTrueEntry, sum_true, turned_zero, joined_equal}
use Rattle.std.proofs.lemmas.List.{map-append}
use Rattle.vipr_spec.specs.Certificate.{Certificate, constraint_at, entries}
use Rattle.vipr_linear.specs.Accumulator.{Accumulator, nothing_added, Holds, held_condition}
use Rattle.vipr_linear.proofs.Laws.{fits_known, start_held, held_sum}

nothing : (s x : ℚ) → s +ℚ zero_ℚ *ℚ x ≡ s
nothing s x = ap (λ y. s +ℚ y) (zero-mul_ℚ x) ∙ add-zero_ℚ s

pub held_without : (n : ℕ) (es : List Entry) (e : Entry) (a : Accumulator) → Holds n es a
    → e.0 ≡ zero_ℚ → Holds n (es ++ e ∷ []) a
held_without n es e a is z = record {
  variables = is.variables;
  fresh = is.fresh;
  row_is = λ j. is.row_is j
      ∙ sym (sum_more (λ e. e.0 *ℚ e.1.row j) es e
      ∙ ap (λ m. sum_over (λ e. e.0 *ℚ e.1.row j) es +ℚ m *ℚ e.1.row j) z ∙ nothing _ (e.1.row j));
  bound_is = is.bound_is
      ∙ sym (sum_more (λ e. e.0 *ℚ e.1.bound) es e
      ∙ ap (λ m. sum_over (λ e. e.0 *ℚ e.1.bound) es +ℚ m *ℚ e.1.bound) z ∙ nothing _ e.1.bound);
  sense_is = joined_sense es (e ∷ []) a.sense equal a.sense is.sense_is
      (subst (HasSense (e ∷ [])) (turned_zero e.0 e.1.sense z) (turned_sense e.0 e.1))
      (joined_equal a.sense);
  fits = (fits_known n es e a is).0 (λ m. absurd (m z));
}

-- ---- an entry by its index
module _ (c : Certificate) (before : List (ℕ × ℚ)) (e : ℕ × ℚ) where
  pub entries_more : (x : Condition) → x ≡ constraint_at c e.0
      → entries c (before ++ e ∷ []) ≡ entries c before ++ (e.1, x) ∷ []
  entries_more x says = map-append (λ (e : ℕ × ℚ). (e.1, constraint_at c e.0)) before (e ∷ [])
      ∙ ap (λ y. entries c before ++ (e.1, y) ∷ []) (sym says)

  pub unused_held : (n : ℕ) (a : Accumulator) → Holds n (entries c before) a → e.1 ≡ zero_ℚ
      → Holds n (entries c (before ++ e ∷ [])) a
  unused_held n a is z = subst (λ es. Holds n es a) (sym (entries_more (constraint_at c e.0) refl))
      (held_without n (entries c before) (e.1, constraint_at c e.0) a is z)

-- ---- over all points: what is held is a sum of entries that are true at x
pub record IsTrueSum (n : ℕ) (x : Point) (a : Accumulator) : Type 0 where
  pub es : List Entry
  pub held : Holds n es a
  pub each : All (IsTrueEntry n x) es

pub nothing_true : (n : ℕ) (x : Point) → IsTrueSum n x (nothing_added n)
nothing_true n x = record { es = []; held = start_held n; each = All-nil (IsTrueEntry n x) }

pub more_true : (n : ℕ) (x : Point) (a b : Accumulator) (e : Entry) (s : IsTrueSum n x a)
    → Holds n (s.es ++ e ∷ []) b → IsTrueAt n e.1 x → IsTrueSum n x b
more_true n x a b e s held t = record {
  es = s.es ++ e ∷ [];
  held = held;
  each = All-append (IsTrueEntry n x) s.es (e ∷ []) s.each
      (All-cons (IsTrueEntry n x) e [] (λ m. t) (All-nil (IsTrueEntry n x)));
}

pub sum_is_true : (n : ℕ) (x : Point) (a : Accumulator) → IsTrueSum n x a
    → IsTrueAt n (held_condition a) x
sum_is_true n x a s =
    let k = held_sum n s.es a s.held in
    subst (λ d. IsTrueAt n d x) (sym k.1) (sum_true n x s.es a.sense k.0 s.each)
