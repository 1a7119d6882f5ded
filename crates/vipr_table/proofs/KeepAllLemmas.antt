-- A list that marks its entries, as the map of those that are not marked.
use Rattle.std.proofs.Common.{◌≡◌, ℕ, zero, suc, ◌+◌, ◌-◌, ◌<◌, ◌≤◌, Bool, true, false, cond}
use Rattle.std.proofs.Common.{nat_eq, Option, Some, None, is_some, slice_get, List, [], ◌∷◌, ◌++◌}
use Rattle.std.proofs.Common.{length, refl, sym, ap, ◌∙◌, subst, arith, add-zero, All}
use Rattle.std.proofs.Common.{IsPermutation, length-append, get_or, not}
use Rattle.std.proofs.lemmas.List.Elements.{All-cons, All-head, All-tail}
use Rattle.std.proofs.lemmas.List.Sorted.{All-permutation}
use Rattle.std.proofs.{Math.ListN.set, lemmas.Bool.Decides.nat_tests}
use Rattle.std.specs.FinMap.{FinMap, get, insert, remove, empty, get-empty, len, len-empty}
use Rattle.std.specs.FinMap.{len-insert, len-remove, contains_key}
use Rattle.std.specs.{Cmp.nat_cmp_total, Ordering.nat_cmp}
use mir.Val.{bool_byte}
use Rattle.vipr_table.specs.KeepAll.{entries_not_forgotten, entry_if_kept, forget_at, IsKept}
use Rattle.vipr_table.specs.{Expiry.Notes, Expiry.IsTied, Table.expiry, Table.if_live}
use Rattle.vipr_table.specs.{declared.rows.Entry.Entry, declared.rows.keep_all.Kept.Kept}
use Rattle.vipr_table.proofs.TableLemmas.{get-insert_at, get-remove_at, same_numbers}
use Rattle.vipr_table.proofs.CountLemmas.{some_held}
use Rattle.vipr_table.proofs.ExpiryOrderLemmas.{IsTied-put, IsTied-removed, IsTied-empty}

swapped : {A : Type 0} (a b : Bool) (x y z : A) → (a ≡ true → b ≡ true → ⊥)
    → cond a x (cond b y z) ≡ cond b y (cond a x z)
swapped a b x y z apart = grind arith

not_both : (q a b : ℕ) → (a ≡ b → ⊥) → nat_eq q a ≡ true → nat_eq q b ≡ true → ⊥
not_both q a b apart h g = grind (arith, nat_tests)

same_key : (q k : ℕ) → nat_eq q k ≡ true → q ≡ k
same_key q k h = grind (arith, nat_tests)

itself : (k : ℕ) → nat_eq k k ≡ true
itself k = grind (arith, nat_tests)

other : (q k : ℕ) → (q ≡ k → ⊥) → nat_eq q k ≡ false
other q k h = grind (arith, nat_tests)

module _ (m : FinMap nat_cmp Entry) (a b : ℕ) (v w : Entry) (apart : a ≡ b → ⊥) where
  insert_insert : insert (insert m a v) b w ≡ insert (insert m b w) a v
  insert_insert = grind (arith, same_numbers, get-insert_at)

  insert_remove : insert (remove m b) a v ≡ remove (insert m a v) b
  insert_remove = grind (arith, same_numbers, get-insert_at, get-remove_at)

module _ (m : FinMap nat_cmp Entry) (k : ℕ) (none : get m k ≡ None) where
  absent_here : (q : ℕ) → nat_eq q k ≡ true → get m q ≡ None
  absent_here q h = ap (get m) (same_key q k h) ∙ none

  plain : (b : Bool) (o : Option Entry) → (b ≡ true → o ≡ None) → cond b None o ≡ o
  plain b o h = grind arith

  remove_absent : remove m k ≡ m
  remove_absent = same_numbers _ _ (λ q. get-remove_at m k q ∙ plain (nat_eq q k) (get m q) (absent_here q))

  remove_new : (v : Entry) → remove (insert m k v) k ≡ m
  remove_new v = grind (arith, same_numbers, get-remove_at, get-insert_at)

  remove_one : (b : Bool) (v : Entry) → remove (cond b m (insert m k v)) k ≡ m
  remove_one b v = grind (arith, remove_absent, remove_new)

  get_one : (b : Bool) (v : Entry) → get (cond b m (insert m k v)) k ≡ cond b None (Some v)
  get_one b v = grind (arith, get-insert_at)

get_past : (m : FinMap nat_cmp Entry) (k q : ℕ) (v : Entry) (b : Bool) → (q ≡ k → ⊥)
    → get (cond b m (insert m k v)) q ≡ get m q
get_past m k q v b apart = grind (arith, get-insert_at)

-- nothing stands before the first index
pub get-kept_before : (first : ℕ) (ks : List Kept) (q : ℕ) → q < first
    → get (entries_not_forgotten first ks) q ≡ None
get-kept_before first [] q h = get-empty nat_cmp q
get-kept_before first (k ∷ ks) q h = get_past _ first q k.entry k.is_forgotten (λ e. omega arith)
    ∙ get-kept_before (first + 1) ks q (omega arith)

-- and from there on each entry that is not marked
pub get-kept_at : (first : ℕ) (ks : List Kept) (i : ℕ)
    → get (entries_not_forgotten first ks) (first + i) ≡ entry_if_kept (slice_get ks i)
get-kept_at first [] i = get-empty nat_cmp (first + i)
get-kept_at first (k ∷ ks) zero =
    rw add-zero (get_one (entries_not_forgotten (first + 1) ks) first
    (get-kept_before (first + 1) ks first (omega arith)) k.is_forgotten k.entry)
get-kept_at first (k ∷ ks) (suc i) = grind (arith, get_past, get-kept_at (first + 1) ks i)

both_inserted : (b : Bool) (m : FinMap nat_cmp Entry) (a n : ℕ) (v w : Entry) → (n ≡ a → ⊥)
    → cond b (insert m n w) (insert (insert m n w) a v) ≡ insert (cond b m (insert m a v)) n w
both_inserted b m a n v w apart = grind (arith, insert_insert)

both_removed : (b : Bool) (m : FinMap nat_cmp Entry) (a n : ℕ) (v : Entry) → (a ≡ n → ⊥)
    → cond b (remove m n) (insert (remove m n) a v) ≡ remove (cond b m (insert m a v)) n
both_removed b m a n v apart = grind (arith, insert_remove)

pub kept_map-push : (first : ℕ) (ks : List Kept) (k : Kept) → k.is_forgotten ≡ false
    → entries_not_forgotten first (ks ++ k ∷ [])
    ≡ insert (entries_not_forgotten first ks) (first + length ks) k.entry
kept_map-push first [] k new = ap (λ b. cond b empty (insert empty first k.entry)) new
    ∙ ap (λ n. insert empty n k.entry) (sym (add-zero first))
kept_map-push first (j ∷ ks) k new = grind (arith, kept_map-push (first + 1) ks k new, both_inserted)

pub kept_map-forget : (first : ℕ) (ks : List Kept) (i : ℕ) → i < length ks
    → entries_not_forgotten first (forget_at ks i)
    ≡ remove (entries_not_forgotten first ks) (first + i)
kept_map-forget first [] i h = absurd (omega arith)
kept_map-forget first (k ∷ ks) zero h =
    rw add-zero (sym
    (remove_one (entries_not_forgotten (first + 1) ks) first
    (get-kept_before (first + 1) ks first (omega arith)) k.is_forgotten k.entry))
kept_map-forget first (k ∷ ks) (suc i) h = grind (arith, kept_map-forget (first + 1) ks i (omega arith), both_removed)

pub length-forget_at : (ks : List Kept) (i : ℕ) → length (forget_at ks i) ≡ length ks
length-forget_at [] i = refl
length-forget_at (k ∷ ks) zero = refl
length-forget_at (k ∷ ks) (suc i) = ap suc (length-forget_at ks i)

pub len-kept_map : (first : ℕ) (ks : List Kept) → len (entries_not_forgotten first ks) ≤ length ks
len-kept_map first [] = let none = len-empty nat_cmp Entry in omega (arith, none)
len-kept_map first (k ∷ ks) = by k.is_forgotten (len-kept_map (first + 1) ks)
  where
    by : (b : Bool) → len (entries_not_forgotten (first + 1) ks) ≤ length ks
        → len (cond b (entries_not_forgotten (first + 1) ks)
        (insert (entries_not_forgotten (first + 1) ks) first k.entry)) ≤ suc (length ks)
    by true h = omega arith
    by false h = more (contains_key (entries_not_forgotten (first + 1) ks) first)
        (len-insert nat_cmp_total (entries_not_forgotten (first + 1) ks) first k.entry)
      where
        more : (c : Bool) → len (insert (entries_not_forgotten (first + 1) ks) first k.entry) ≡ cond
            c (len (entries_not_forgotten (first + 1) ks))
            (len (entries_not_forgotten (first + 1) ks) + 1)
            → len (insert (entries_not_forgotten (first + 1) ks) first k.entry) ≤ suc (length ks)
        more true e = omega arith
        more false e = omega arith

past_end : (ks : List Kept) (i : ℕ) → length ks ≤ i → slice_get ks i ≡ None
past_end [] i h = refl
past_end (k ∷ ks) zero h = absurd (omega arith)
past_end (k ∷ ks) (suc i) h = past_end ks i (omega arith)

place_get : (ks : List Kept) (i : ℕ) (k : Kept) → i < length ks → k ≡ get_or ks i k
    → slice_get ks i ≡ Some k
place_get [] i k h e = absurd (omega arith)
place_get (j ∷ ks) zero k h e = ap Some (sym e)
place_get (j ∷ ks) (suc i) k h e = place_get ks i k (omega arith) e

less_one : (c : Bool) (n : ℕ) → n - cond c 1 0 ≡ cond c (n - 1) n
less_one c n = grind arith

-- a mark, as a write
pub set-forget : (ks : List Kept) (i : ℕ) (k : Kept) → i < length ks → k ≡ get_or ks i k
    → set ks i (record k { is_forgotten = true }) ≡ forget_at ks i
set-forget [] i k h e = absurd (omega arith)
set-forget (j ∷ ks) zero k h e = ap (λ (x : Kept). record x { is_forgotten = true } ∷ ks) e
set-forget (j ∷ ks) (suc i) k h e = ap (λ l. j ∷ l) (set-forget ks i k (omega arith) e)

-- how many entries are at a place: one, if it is not marked
pub was_shown : (ks : List Kept) (i : ℕ) (k : Kept) → i < length ks → k ≡ get_or ks i k
    → bool_byte (not k.is_forgotten) ≡ cond (is_some (entry_if_kept (slice_get ks i))) 1 0
was_shown [] i k h e = absurd (omega arith)
was_shown (j ∷ ks) zero k h e = ap (λ (x : Kept). bool_byte (not x.is_forgotten)) e ∙ by j.is_forgotten
  where
    by : (b : Bool) → bool_byte (not b) ≡ cond (is_some (cond b None (Some j.entry))) 1 0
    by true = refl
    by false = refl
was_shown (j ∷ ks) (suc i) k h e = was_shown ks i k (omega arith) e

module _ (first next : ℕ) (ks : List Kept) (held : ℕ) (ds : List (ℕ × ℕ)) (t : IsKept first next ks held ds) where
  pub IsKept-put : (es : List (ℕ × ℕ)) (k : Kept) → Notes (expiry k.entry) next ds es
      → k.is_forgotten ≡ false → IsKept first (next + 1) (ks ++ k ∷ []) (held + 1) es
  IsKept-put es k notes new = record {
    placed = let l = length-append ks (k ∷ []) in let p = t.placed in omega (arith, l, p);
    tied = subst (λ m. IsTied (next + 1) m es) (sym inserted)
        (IsTied-put next (entries_not_forgotten first ks) ds es k.entry t.tied notes);
    begins = by (expiry k.entry) notes;
    count = let e = t.count in let step = grown in omega (arith, e, step);
  }
    where
      inserted : entries_not_forgotten first (ks ++ k ∷ []) ≡ insert (entries_not_forgotten first ks) next k.entry
      inserted = kept_map-push first ks k new
          ∙ ap (λ n. insert (entries_not_forgotten first ks) n k.entry) (sym t.placed)

      absent : contains_key (entries_not_forgotten first ks) next ≡ false
      absent = ap is_some (ap (get (entries_not_forgotten first ks)) t.placed
          ∙ get-kept_at first ks (length ks)
          ∙ ap entry_if_kept (past_end ks (length ks) (omega arith)))

      grown : len (entries_not_forgotten first (ks ++ k ∷ [])) ≡ len (entries_not_forgotten first ks) + 1
      grown = ap len inserted ∙ len-insert nat_cmp_total (entries_not_forgotten first ks) next
          k.entry ∙ ap
          (λ b. cond b (len (entries_not_forgotten first ks))
          (len (entries_not_forgotten first ks) + 1)) absent

      by : (o : Option ℕ) → Notes o next ds es → All (λ (d : ℕ × ℕ). first ≤ d.1) es
      by None n = subst (All (λ (d : ℕ × ℕ). first ≤ d.1)) (sym n) t.begins
      by (Some last) n = All-permutation (λ d. first ≤ d.1) ((last, next) ∷ ds) es n
          (All-cons (λ d. first ≤ d.1) (last, next) ds (let p = t.placed in omega (arith, p))
          t.begins)

  module _ (es : List (ℕ × ℕ)) (last i : ℕ) (p : IsPermutation ds ((last, i) ∷ es)) where
    pub due_begins : first ≤ i
    due_begins = All-head (λ (d : ℕ × ℕ). first ≤ d.1) (last, i) es
        (All-permutation (λ d. first ≤ d.1) ds ((last, i) ∷ es) p t.begins)

    pub due_within : i - first < length ks
    due_within =
        let below : i < next = All-head (λ (d : ℕ × ℕ). d.1 < next) (last, i) es
        (All-permutation (λ d. d.1 < next) ds ((last, i) ∷ es) p t.tied.below) in
        let place = t.placed in omega (arith, due_begins, below, place)

    there : get (entries_not_forgotten first ks) i ≡ entry_if_kept (slice_get ks (i - first))
    there = ap (get (entries_not_forgotten first ks)) (let e : i ≡ first + (i - first) =
        omega (arith, due_begins) in e) ∙ get-kept_at first ks (i - first)

    pub forgotten : entries_not_forgotten first (forget_at ks (i - first)) ≡ remove (entries_not_forgotten first ks) i
    forgotten = kept_map-forget first ks (i - first) due_within
        ∙ ap (remove (entries_not_forgotten first ks)) (let e : first + (i - first) ≡ i =
        omega (arith, due_begins) in e)

    pub shown_held : cond (is_some (entry_if_kept (slice_get ks (i - first)))) 1 0 ≤ held
    shown_held = subst (λ n. cond (is_some (entry_if_kept (slice_get ks (i - first)))) 1 0 ≤ n)
        (sym t.count) (some_held (entries_not_forgotten first ks) i _ (ap is_some there))

    pub IsKept-removed : IsKept first next (forget_at ks (i - first))
        (held - cond (is_some (entry_if_kept (slice_get ks (i - first)))) 1 0) es
    IsKept-removed = record {
      placed = let l = length-forget_at ks (i - first) in let p = t.placed in omega (arith, l, p);
      tied = subst (λ m. IsTied next m es) (sym forgotten)
          (IsTied-removed next (entries_not_forgotten first ks) ds es last i t.tied p);
      begins = All-tail (λ d. first ≤ d.1) (last, i) es
          (All-permutation (λ d. first ≤ d.1) ds ((last, i) ∷ es) p t.begins);
      count =
          less_one (is_some (entry_if_kept (slice_get ks (i - first)))) held
          ∙ ap (λ n. cond (is_some (entry_if_kept (slice_get ks (i - first)))) (n - 1) n) t.count
          ∙ ap (λ b. cond b (len (entries_not_forgotten first ks) - 1)
          (len (entries_not_forgotten first ks))) (sym (ap is_some there))
          ∙ sym (len-remove nat_cmp_total (entries_not_forgotten first ks) i) ∙ sym (ap len forgotten);
    }

  -- what a look-up by the next derivation answers
  pub kept_seen : (i : ℕ) (k : Kept) (r : Option Entry) → first ≤ i → i < next
      → k ≡ get_or ks (i - first) k → if_live next (cond k.is_forgotten None (Some k.entry)) ≡ r
      → r ≡ if_live next (get (entries_not_forgotten first ks) i)
  kept_seen i k r le lt here live =
      let within : i - first < length ks = let p = t.placed in omega (arith, p) in
      sym live ∙ ap (if_live next)
      (sym (ap (get (entries_not_forgotten first ks)) (let e : i ≡ first + (i - first) =
      omega arith in e) ∙ get-kept_at first ks (i - first)
      ∙ ap entry_if_kept (place_get ks (i - first) k within here)))

  pub none_before : (i : ℕ) → i < first → None ≡ if_live next (get (entries_not_forgotten first ks) i)
  none_before i h = ap (if_live next) (sym (get-kept_before first ks i h))

  pub none_after : (i : ℕ) → next ≤ i → None ≡ if_live next (get (entries_not_forgotten first ks) i)
  none_after i h =
      let past : length ks ≤ i - first = let p = t.placed in omega (arith, p) in
      ap (if_live next)
      (sym (ap (get (entries_not_forgotten first ks)) (let p = t.placed in
      let e : i ≡ first + (i - first) = omega (arith, p) in e)
      ∙ get-kept_at first ks (i - first) ∙ ap entry_if_kept (past_end ks (i - first) past)))

pub IsKept-empty : (first : ℕ) → IsKept first first [] 0 []
IsKept-empty first = record {
  placed = omega arith;
  tied = IsTied-empty first;
  begins = λ k d lt. absurd (omega arith);
  count = sym (len-empty nat_cmp Entry);
}
