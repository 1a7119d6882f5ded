-- One pass from the front: what is kept so far, and the table of new indices
use Rattle.std.proofs.Common.{◌≡◌, ℕ, zero, suc, ◌+◌, ◌-◌, ◌<◌, ◌≤◌, Bool, true, false, cond, ◌||◌}
use Rattle.std.proofs.Common.{nat_lt, List, [], ◌∷◌, ◌++◌, take, drop, map, length, slice_index_or}
use Rattle.std.proofs.Common.{get_or, Option, Some, None, IfSome, arith, refl, sym, ◌∙◌, ap, ap₂}
use Rattle.std.proofs.Common.{subst, ⊎_elim, lt-ltb}
use Rattle.std.proofs.lemmas.Bool.{cases_lt, le-ltb, ne_eqb}
use Rattle.std.proofs.lemmas.List.{drop_more, get_or-drop, get_or-map, get_or_append_left, get_or_past}
use Rattle.std.proofs.lemmas.List.{length-append, length-map, length-take-le}
use Rattle.std.proofs.Math.Seq.{get_or-append_right}
use Rattle.vipr_spec.specs.Certificate.{Derivation, Certificate, NamesEarlier, count}
use Rattle.vipr_spec.specs.Steps.{RefersBack}
use Rattle.vipr_spec.specs.Tightened.{refers_to, is_the_goal, is_marked, new_index}
use Rattle.vipr_spec.specs.Tightened.{renumbered_reason, with_new_indices, kept_derivations}
use Rattle.vipr_spec.specs.Tightened.{referred_by, tightened_certificate}
use Rattle.vipr_spec.proofs.Laws.{index_same, length_kept_derivations, reason_placed, marked_past}
use Rattle.vipr_spec.proofs.Laws.{next_kept, next_left_out, renumbered_alike}
use Rattle.vipr_tighten.specs.Passes.{AreDerivationsOf, CanTighten, NameEarlier}
use Rattle.vipr_tighten.specs.Passes.{has_mark, AreMarks, kept_by, index_by, TakesOver}

-- ---- so far

-- the table has the new index of each derivation so far, and these are kept
pub record SoFar (first : ℕ) (marks : List Bool) (all : List Derivation) (table : List ℕ)
    (kept : List Derivation) : Type 0 where
  pub few : length table ≤ length all
  pub indices : (k : ℕ) → k < length table → slice_index_or table k 0 ≡ new_index (kept_by first marks) (first + k)
  pub those : kept ≡ kept_derivations (kept_by first marks) first (take (length table) all)

given_kept : (first : ℕ) (marks : List Bool) (i : ℕ) → i < first → kept_by first marks i ≡ true
given_kept first marks i h = ap (λ b. b || has_mark marks (i - first)) (lt-ltb i first h)

module _ (first : ℕ) (marks : List Bool) (all : List Derivation) (table : List ℕ)
    (kept : List Derivation) (so_far : SoFar first marks all table kept) where
  abbrev keep : ℕ → Bool
  keep = kept_by first marks

  -- the next new index
  pub index_now : first + length kept ≡ new_index keep (first + length table)
  index_now = grind (arith, take, length-take-le, length_kept_derivations, index_same, given_kept)

  -- what the table says of earlier constraints
  look_up : (i : ℕ) → i < first + length table → index_by first table i ≡ new_index keep i
  look_up i h = grind (arith, cond, lt-ltb, index_same, given_kept, le-ltb)

  -- the next derivation
  module _ (x : Derivation) (inside : length table < length all) (is : slice_index_or all (length table) x ≡ x) where
    longer : (index : ℕ) → length (table ++ index ∷ []) ≡ length table + 1
    longer index = length-append table (index ∷ [])

    indices_more : (index : ℕ) → index ≡ first + length kept → (k : ℕ)
        → k < length (table ++ index ∷ [])
        → slice_index_or (table ++ index ∷ []) k 0 ≡ new_index keep (first + k)
    indices_more index f k h = ⊎_elim
        (λ (l : k < length table). get_or_append_left table (index ∷ []) 0 k l ∙ so_far.indices k l)
        (λ (l : length table ≤ k). grind (arith, longer, get_or-append_right, index_now))
        (cases_lt k (length table))

    mark_there : has_mark marks (length table) ≡ keep (first + length table)
    mark_there = grind (arith, le-ltb)

    pub leave_out : (index : ℕ) → index ≡ first + length kept
        → has_mark marks (length table) ≡ false → SoFar first marks all (table ++ index ∷ []) kept
    leave_out index f m = grind (arith, longer, indices_more, take, next_left_out, mark_there)

    pub take_over : (index : ℕ) → index ≡ first + length kept → has_mark marks (length table) ≡ true
        → NameEarlier first all
        → (new : List Derivation) → TakesOver (with_new_indices (index_by first table) x) index first kept new
        → SoFar first marks all (table ++ index ∷ []) new
    take_over index f m earlier new takes =
        let size = longer index in
        let names : NamesEarlier (first + length table) (Some x.reason) =
        subst (NamesEarlier (first + length table))
        (get_or-map (λ (d : Derivation). Some d.reason) all (length table) x None inside
        ∙ ap (λ (d : Derivation). Some d.reason) is) (earlier (length table)) in
        let reason : renumbered_reason (index_by first table) x.reason ≡ renumbered_reason (new_index keep) x.reason =
        renumbered_alike (index_by first table) (new_index keep) (first + length table) look_up x.reason names in
        record {
          few = omega arith;
          indices = indices_more index f;
          those =
              takes
              ∙ ap (λ r. behind (record x { reason = r }) index kept) reason
              ∙ ap₂ (λ n l. behind (with_new_indices (new_index keep) x) n l) (f ∙ index_now) so_far.those
              ∙ sym (ap (λ n. kept_derivations keep first (take n all)) size
              ∙ next_kept keep first (length table) all x (given_kept first marks) inside (sym mark_there ∙ m)
              ∙ ap (λ d. behind (with_new_indices (new_index keep) d)
              (new_index keep (first + length table))
              (kept_derivations keep first (take (length table) all))) is);
        }
      where
        behind : Derivation → ℕ → List Derivation → List Derivation
        behind d n l = referred_by (refers_to d.reason) n first l ++ record d { last = None } ∷ []

-- ---- in place

exists_at : {A : Type 0} (l : List A) (i : ℕ) → i < length l → (x : A) × (x ≡ get_or l i x)
exists_at [] i h = absurd (omega arith)
exists_at (x ∷ l) zero h = (x, refl)
exists_at (x ∷ l) (suc i) h = exists_at l i (omega arith)

pub left_more : {A : Type 0} (k l : List A) (n : ℕ) → n < length k → n < length l
    → drop n k ≡ drop n l → drop (n + 1) k ≡ drop (n + 1) l
left_more k l n h i e = grind (
  arith,
  exists_at l n i,
  drop_more k n ((exists_at l n i).0) h,
  drop_more l n ((exists_at l n i).0) i,
)

-- The first `kept` are those that are kept so far, and the others follow from `place` on.
module _ {D : Type 0} (derived : D → Derivation) (first : ℕ) (marks : List Bool) (all ds : List D)
    (table : List ℕ) (kept place : ℕ) (size : length ds ≡ length all) (at : length table ≡ place)
    (behind : kept ≤ place)
    (left : drop place ds ≡ drop place all) (there : place < length all)
    (so_far : SoFar first marks (map derived all) table (map derived (take kept ds))) where
  next_one : (x : D) × (x ≡ get_or all place x)
  next_one = exists_at all place there

  still : next_one.0 ≡ get_or ds place next_one.0
  still = grind (arith, get_or-drop place all 0 next_one.0, get_or-drop place ds 0 next_one.0)

  inside : length table < length (map derived all)
  inside = let e = length-map all derived in omega arith

  is : slice_index_or (map derived all) (length table) (derived next_one.0) ≡ derived next_one.0
  is = ap (λ n. slice_index_or (map derived all) n (derived next_one.0)) at
      ∙ get_or-map derived all place next_one.0 (derived next_one.0) there
      ∙ ap derived (sym next_one.1)

  index_is : first + kept ≡ first + length (map derived (take kept ds))
  index_is = omega (arith, length-map (take kept ds) derived, length-take-le kept ds (omega arith))

  pub place_left_out : has_mark marks place ≡ false
      → SoFar first marks (map derived all) (table ++ (first + kept) ∷ [])
      (map derived (take kept ds))
  place_left_out m = leave_out first marks (map derived all) table (map derived (take kept ds))
      so_far (derived next_one.0) inside is (first + kept) index_is (ap (has_mark marks) at ∙ m)

  pub place_taken_over : has_mark marks place ≡ true → NameEarlier first (map derived all) → (new : List D)
      → ((x : D) → x ≡ get_or ds place x
      → TakesOver (with_new_indices (index_by first table) (derived x)) (first + kept) first
      (map derived (take kept ds)) (map derived (take (kept + 1) new)))
      → SoFar first marks (map derived all) (table ++ (first + kept) ∷ []) (map derived (take (kept + 1) new))
  place_taken_over m earlier new takes =
      take_over first marks (map derived all) table (map derived (take kept ds)) so_far
      (derived next_one.0) inside is (first + kept) index_is (ap (has_mark marks) at ∙ m)
      earlier
      (map derived (take (kept + 1) new)) (takes next_one.0 still)

-- ---- of the certificate

pub earlier_of : (c : Certificate) (first : ℕ) (ds : List Derivation) → RefersBack c
    → AreDerivationsOf c first ds → NameEarlier first ds
earlier_of c first ds back are k = grind (arith, reason_placed c k, map)

pub count_of : (c : Certificate) (first : ℕ) (ds : List Derivation) → AreDerivationsOf c first ds
    → count c ≡ first + length ds
count_of c first ds are = ap₂ (λ m n. m + n) are.first_is (ap length (sym are.those))

other : (n : ℕ) (goal : Option ℕ) → IfSome goal (λ g. g < n) → (i : ℕ) → n ≤ i
    → is_the_goal goal i ≡ false
other n goal h i far = grind (arith, ne_eqb)

module _ (c : Certificate) (first : ℕ) (ds : List Derivation) (of : AreDerivationsOf c first ds)
    (goal : Option ℕ) (can : CanTighten c goal) (marks : List Bool)
    (are : AreMarks goal first ds marks) where
  among : IfSome goal (λ g. g < first + length ds)
  among = subst (λ n. IfSome goal (λ g. g < n)) (count_of c first ds of) can.named

  kept_alike : (i : ℕ) → kept_by first marks i ≡ (nat_lt i first || is_marked goal first ds i)
  kept_alike i = ⊎_elim
      (λ (l : i < first). ap (λ b. b || has_mark marks (i - first)) (lt-ltb i first l)
      ∙ sym (ap (λ b. b || is_marked goal first ds i) (lt-ltb i first l)))
      (λ (l : first ≤ i).
      let place : first + (i - first) ≡ i = omega arith in
      ap (λ b. nat_lt i first || b) (⊎_elim
      (λ (near : i < first + length ds). are.each (i - first) (omega arith) ∙ ap (is_marked goal first ds) place)
      (λ (far : first + length ds ≤ i).
      let size = are.size in
      get_or_past marks (i - first) false (omega arith)
      ∙ sym (marked_past goal first ds i (other (first + length ds) goal among i far)
      (earlier_of c first ds can.back of) (omega arith)))
      (cases_lt i (first + length ds))))
      (cases_lt i first)

  pub tightened_is : (kept : List Derivation) → kept ≡ kept_derivations (kept_by first marks) first ds
      → kept ≡ (tightened_certificate c goal).derivations
  tightened_is kept e =
      let same : kept_by first marks ≡ (λ (i : ℕ). nat_lt i first || is_marked goal first ds i) =
      λ i. λ k. kept_alike k i in
      e ∙ ap (λ keep. kept_derivations keep first ds) same
      ∙ ap₂ (λ m l. kept_derivations (λ i. nat_lt i m || is_marked goal m l i) m l) (sym of.first_is) of.those
