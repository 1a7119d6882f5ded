-- Marks and the list of the marked variables, and the sums beside them
use Rattle.std.proofs.Common.{◌≡◌, ◌≢◌, ℕ, suc, ◌+◌, ◌<◌, ◌≤◌, take, drop, Bool, true, false, cond}
use Rattle.std.proofs.Common.{nat_eq, List, [], ◌∷◌, ◌++◌, length, get_or, arith, refl, sym, ◌∙◌}
use Rattle.std.proofs.Common.{ap, subst, ◌||◌, inl, inr, ◌⊎◌, drop-cons, add-one, ap₂, map, filter}
use Rattle.std.proofs.Common.{not, pos, replicate, Result, IsOk, IsErr}
use Rattle.std.proofs.lemmas.List.{get_or-set_same, get_or-set_other, get_or_past, get_or_default}
use Rattle.std.proofs.lemmas.List.{get_or-map, get_or-replicate, length_push, length-set}
use Rattle.std.proofs.lemmas.List.{length-map, length-replicate, drop_all, append-nil, same_lists}
use Rattle.std.proofs.lemmas.List.Folds.{list_any-append, list_any_at}
use Rattle.std.proofs.lemmas.Map.Steps.{length-le_from_distinct_below}
use Rattle.std.proofs.{lemmas.Bool.cases_eq, lemmas.Bool.cases_lt, lemmas.Bool.Decides.nat_tests}
use Rattle.std.proofs.{lemmas.List.Elements.filter_more, lemmas.Map.Keys.IsDistinct-push}
use Rattle.std.specs.Prelude.{◌↔◌, slice_set}
use Rattle.std.specs.{Cmp.nat_eq_equiv, List.IsDistinct, List.list_any, Ordering.int_eq}
use Rattle.vipr_spec.specs.{Fraction.ℚ, Fraction.zero_ℚ, MoreEntries.TermFits, Reading.is_nonzero}
use Rattle.vipr_spec.proofs.Laws.{zero_or_not}
use Rattle.vipr_linear.specs.Accumulator.{with_term, with_terms, TermsFitIn}
use Rattle.vipr_linear.specs.Touched.{Touching, Covers, AreTouched, AreCovered}
use Rattle.vipr_linear.proofs.Rows.{nothing_distinct}

-- a place in a list is one in its view
pub also_within : {xs ys : List ℚ} {i : ℕ} → xs ≡ ys → i < length ys → i < length xs
also_within {xs} {ys} {i} e h = subst (λ l. i < length l) (sym e) h

pub marked_below : (marks : List Bool) (j : ℕ) → get_or marks j false ≡ true → j < length marks
marked_below marks j t =
    elim (cases_lt j (length marks)) [
      | inl l ↦ l
      | inr past ↦
          absurd (let e = get_or_past marks j false past in cc)
    ]

itself : (j : ℕ) → nat_eq j j ≡ true
itself j = grind (arith, nat_tests)

pub other : (j v : ℕ) → j ≢ v → nat_eq j v ≡ false
other j v n = grind (arith, nat_tests)

or_true : (a : Bool) → (a || (true || false)) ≡ true
or_true a = grind arith

pub or_false : (a : Bool) → (a || (false || false)) ≡ a
or_false a = grind arith

-- ---- one more place in a list
pub unmarked_more : (list : List ℕ) (v j : ℕ) → j ≢ v → list_any (nat_eq j) list ≡ list_any (nat_eq j) (list ++ v ∷ [])
unmarked_more list v j n =
    sym (list_any-append (nat_eq j) list (v ∷ [])
    ∙ ap (λ b. list_any (nat_eq j) list || (b || false)) (other j v n) ∙ or_false _)

pub marked_more : (marks : List Bool) (list : List ℕ) (v j : ℕ) → v < length marks
    → get_or marks j false ≡ list_any (nat_eq j) list
    → get_or (slice_set marks v true) j false ≡ list_any (nat_eq j) (list ++ v ∷ [])
marked_more marks list v j l is = by (cases_eq j v)
  where
    by : (j ≡ v) ⊎ (j ≢ v) → get_or (slice_set marks v true) j false ≡ list_any (nat_eq j) (list ++ v ∷ [])
    by (inl e) = ap (λ k. get_or (slice_set marks v true) k false) e
        ∙ get_or-set_same marks v true false l
        ∙ sym (list_any-append (nat_eq j) list (v ∷ [])
        ∙ ap (λ b. list_any (nat_eq j) list || (b || false)) (ap (λ k. nat_eq j k) (sym e)
        ∙ itself j) ∙ or_true _)
    by (inr n) = get_or-set_other marks v j true false n ∙ is ∙ unmarked_more list v j n

-- ---- one more touched variable
module _ (marks : List Bool) (touched : List ℕ) (v : ℕ) (l : v < length marks)
    (m : get_or marks v false ≡ false) (t : Touching marks touched) where
  distinct_more : IsDistinct nat_eq (touched ++ v ∷ [])
  distinct_more = IsDistinct-push nat_eq_equiv touched v t.distinct (sym (t.listed v) ∙ m)

  listed_more : (j : ℕ) → get_or (slice_set marks v true) j false ≡ list_any (nat_eq j) (touched ++ v ∷ [])
  listed_more j = marked_more marks touched v j l (t.listed j)

  pub touch_more : Touching (slice_set marks v true) (touched ++ v ∷ [])
  touch_more = record { listed = listed_more; distinct = distinct_more }

  pub touch_room : length touched < length marks
  touch_room =
      let all = length-le_from_distinct_below (touched ++ v ∷ []) (length (slice_set marks v true))
      distinct_more (λ q h. marked_below (slice_set marks v true) q (listed_more q ∙ h)) in
      omega (arith, all, length_push touched v, length-set marks v true)

-- ---- terms, in their order
pub next : {A : Type 0} (es : List A) (i : ℕ) (p : A) → i < length es → p ≡ get_or es i p
    → drop i es ≡ p ∷ drop (i + 1) es
next es i p l e = rw add-one (drop-cons es i p l ∙ ap (λ x. x ∷ drop (suc i) es) (sym e))

module _ (sums : List ℚ) (m : ℚ) (es : List (ℕ × ℚ)) (i : ℕ) (p : ℕ × ℚ) (l : i < length es)
    (e : p ≡ get_or es i p) where
  pub next_sums : with_terms sums m (drop i es) ≡ with_terms (with_term sums m p) m (drop (i + 1) es)
  unfolding with_terms
  next_sums = ap (with_terms sums m) (next es i p l e)

  pub next_fits : TermsFitIn sums m (drop i es)
      ↔ (TermFits (get_or sums p.0 zero_ℚ) m p.1 × TermsFitIn (with_term sums m p) m
      (drop (i + 1) es))
  unfolding TermsFitIn
  next_fits = (
    λ h. subst (TermsFitIn sums m) (next es i p l e) h,
    λ h. subst (TermsFitIn sums m) (sym (next es i p l e)) h,
  )

-- a sum that changes at a marked variable
pub covers_set : (sums : List ℚ) (marks : List Bool) (v : ℕ) (x : ℚ) → v < length sums
    → get_or marks v false ≡ true → Covers sums marks → Covers (slice_set sums v x) marks
covers_set sums marks v x l t c j n = by (cases_eq j v)
  where
    by : (j ≡ v) ⊎ (j ≢ v) → get_or marks j false ≡ true
    by (inl e) = ap (λ k. get_or marks k false) e ∙ t
    by (inr d) = c j (λ z. n (get_or-set_other sums v j x zero_ℚ d ∙ z))

pub covers_more : (sums : List ℚ) (marks marks' : List Bool)
    → ((j : ℕ) → get_or marks j false ≡ true → get_or marks' j false ≡ true) → Covers sums marks
    → Covers sums marks'
covers_more sums marks marks' k c j n = k j (c j n)

pub touched_at_first : (n m : ℕ) (list : List ℕ) → list ≡ [] → n ≤ m
    → AreTouched (replicate n false) list m
touched_at_first n m list e le = record {
  room = (let l = length-replicate n false in omega (arith, l, le));
  touching = subst (Touching (replicate n false)) (sym e)
      (record { listed = λ j. none j (cases_lt j n); distinct = nothing_distinct });
}
  where
    none : (j : ℕ) → (j < n) ⊎ (n ≤ j) → get_or (replicate n false) j false ≡ false
    none j (inl l) = get_or-replicate n j false false l
    none j (inr past) = get_or_past (replicate n false) j false (let e = length-replicate n false in
        omega (arith, e, past))

pub covered_at_first : (n : ℕ) → AreCovered (replicate n zero_ℚ) (replicate n false)
covered_at_first n = record {
  places = length-replicate n false ∙ sym (length-replicate n zero_ℚ);
  covers = λ j some. absurd (some (zero j (cases_lt j n)));
}
  where
    zero : (j : ℕ) → (j < n) ⊎ (n ≤ j) → get_or (replicate n zero_ℚ) j zero_ℚ ≡ zero_ℚ
    zero j (inl l) = get_or-replicate n j zero_ℚ zero_ℚ l
    zero j (inr past) = get_or_past (replicate n zero_ℚ) j zero_ℚ
        (let e = length-replicate n zero_ℚ in omega (arith, e, past))

-- a place is touched, and its sum changes
pub covered_set : (sums : List ℚ) (marks : List Bool) (v : ℕ) (x : ℚ) → v < length sums
    → AreCovered sums marks → AreCovered (slice_set sums v x) (slice_set marks v true)
covered_set sums marks v x l k = record {
  places = length-set marks v true ∙ k.places ∙ sym (length-set sums v x);
  covers = covers_set sums (slice_set marks v true) v x l here
      (covers_more sums marks (slice_set marks v true) stays k.covers);
}
  where
    here : get_or (slice_set marks v true) v false ≡ true
    here = get_or-set_same marks v true false (let e = k.places in omega (arith, e, l))

    stays : (j : ℕ) → get_or marks j false ≡ true → get_or (slice_set marks v true) j false ≡ true
    stays j t = by (cases_eq j v)
      where
        by : (j ≡ v) ⊎ (j ≢ v) → get_or (slice_set marks v true) j false ≡ true
        by (inl e) = ap (λ i. get_or (slice_set marks v true) i false) e ∙ here
        by (inr d) = get_or-set_other marks v j true false d ∙ t

-- an error is no success
pub not_both : {A E : Type 0} (r : Result A E) → IsErr r → IsOk r → ⊥
not_both r e o = grind arith

-- after the last term
pub all_fit : (sums : List ℚ) (m : ℚ) (es : List (ℕ × ℚ)) (i : ℕ) → length es ≤ i
    → TermsFitIn sums m (drop i es)
unfolding TermsFitIn
all_fit sums m es i h = subst (TermsFitIn sums m) (sym (drop_all i es h)) tt

pub no_more : (sums : List ℚ) (m : ℚ) (es : List (ℕ × ℚ)) (i : ℕ) → length es ≤ i
    → with_terms sums m (drop i es) ≡ sums
unfolding with_terms
no_more sums m es i h = ap (with_terms sums m) (drop_all i es h)

-- ---- setting sums back
pub touched_below : (marks : List Bool) (touched items : List ℕ) (i : ℕ) → Touching marks touched
    → items ≡ touched → i < length items → get_or items i 0 < length marks
touched_below marks touched items i t e l =
    marked_below marks _
    (t.listed _ ∙ rw (← e) (list_any_at (nat_eq (get_or items i 0)) items i 0 l (itself _)))

none_there : (items : List ℕ) (i j : ℕ) → length items ≤ i
    → list_any (nat_eq j) (drop i items) ≡ true → ⊥
none_there items i j h t = absurd (let e = ap (list_any (nat_eq j)) (drop_all i items h) in cc)

pub all_zero : (sums : List ℚ) (items : List ℕ) (i : ℕ) → length items ≤ i
    → ((j : ℕ) → get_or sums j zero_ℚ ≢ zero_ℚ → list_any (nat_eq j) (drop i items) ≡ true)
    → (j : ℕ) → get_or sums j zero_ℚ ≡ zero_ℚ
all_zero sums items i h left j =
    elim (zero_or_not (get_or sums j zero_ℚ)) [
      | inl e ↦ e
      | inr n ↦
          absurd (none_there items i j h (left j n))
    ]

pub none_touched : (marks : List Bool) (items : List ℕ) (i : ℕ) → length items ≤ i
    → ((j : ℕ) → get_or marks j false ≡ true → list_any (nat_eq j) (drop i items) ≡ true)
    → Touching marks []
none_touched marks items i h left = record {
  listed = λ j. by (get_or marks j false) refl j;
  distinct = nothing_distinct;
}
  where
    by : (b : Bool) → b ≡ b → (j : ℕ) → get_or marks j false ≡ false
    by b e j = at (get_or marks j false) refl
      where
        at : (c : Bool) → get_or marks j false ≡ c → get_or marks j false ≡ false
        at true f = absurd (none_there items i j h (left j f))
        at false f = f

pub all_false : (marks : List Bool) (n : ℕ) → length marks ≡ n → Touching marks []
    → marks ≡ replicate n false
all_false marks n e none = same_lists _ _ (e ∙ sym (length-replicate n false))
    (λ k d l. get_or_default marks k d false l ∙ none.listed k
    ∙ sym (get_or-replicate n k false d (omega (arith, e, l))))

-- ---- the sums that are not 0
abbrev pub pick : List ℚ → ℕ → ℕ × ℚ
pick sums j = (j, get_or sums j zero_ℚ)

module _ (sums : List ℚ) (touched : List ℕ) (i : ℕ) (x : ℚ) (l : i < length touched)
    (w : get_or touched i 0 < length sums) (r : x ≡ get_or sums (get_or touched i 0) x)
    (es : List (ℕ × ℚ)) (so : es ≡ filter is_nonzero (take i (map (pick sums) touched))) where
  picked : get_or (map (pick sums) touched) i (0, zero_ℚ) ≡ (get_or touched i 0, x)
  picked = get_or-map (pick sums) touched i 0 (0, zero_ℚ) l
      ∙ ap (λ y. (get_or touched i 0, y)) (get_or_default sums (get_or touched i 0) zero_ℚ x w
      ∙ sym r)

  one_more : filter is_nonzero (take (i + 1) (map (pick sums) touched)) ≡ es
      ++ cond (is_nonzero (get_or touched i 0, x)) ((get_or touched i 0, x) ∷ []) []
  one_more =
      filter_more is_nonzero (map (pick sums) touched) i (0, zero_ℚ)
      (let e = length-map touched (pick sums) in omega (arith, e, l))
      ∙ ap₂ (λ a b. a ++ cond (is_nonzero b) (b ∷ []) []) (sym so) picked

  pub kept : int_eq x.numer (pos 0) ≡ false → es ++ (get_or touched i 0, x) ∷ [] ≡ filter is_nonzero
      (take (i + 1) (map (pick sums) touched))
  kept f = sym (one_more ∙ ap (λ b. es ++ cond (not b) ((get_or touched i 0, x) ∷ []) []) f)

  pub left_out : int_eq x.numer (pos 0) ≡ true → es ≡ filter is_nonzero (take (i + 1) (map (pick sums) touched))
  left_out t = sym (one_more ∙ ap (λ b. es ++ cond (not b) ((get_or touched i 0, x) ∷ []) []) t ∙ append-nil es)
