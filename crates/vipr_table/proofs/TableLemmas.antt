-- Maps by number: what a list of entries answers, and the part of a map that is live.
use Rattle.std.proofs.Common.{rules, ◌≡◌, ℕ, ◌+◌, true, false, cond, nat_eq, Option, Some}
use Rattle.std.proofs.Common.{None, is_some, List, [], ◌∷◌, length, refl, sym, ap, ◌∙◌, arith}
use Rattle.std.proofs.lemmas.Bool.Decides.{nat_tests}
use Rattle.std.proofs.lemmas.Map.Keys.{IsDistinct-head, IsDistinct-tail}
use Rattle.std.specs.FinMap.{FinMap, get, insert, remove, find, from_entries, len, get-insert}
use Rattle.std.specs.FinMap.{get-remove, get-from_entries, get-retain_keys, len-insert, len-empty}
use Rattle.std.specs.FinMap.{same_map, nat_cmp-IsAntisymmetric, contains_key}
use Rattle.std.specs.{Cmp.nat_cmp_total, List.IsDistinct, List.AllByRecursion, Map.lookup}
use Rattle.std.specs.{Map.keys_of, Ordering.nat_cmp, Ordering.eq_by_cmp}
use Rattle.vipr_table.specs.declared.rows.Entry.{Entry}
use Rattle.vipr_table.specs.Table.{Table, if_live, is_live_before, live_part}

pub tied_numbers : (a b : ℕ) → eq_by_cmp nat_cmp a b ≡ nat_eq a b
tied_numbers a b = grind (arith, nat_tests)

module _ {X : Type 0} where
  find-lookup : (q : ℕ) (es : List (ℕ × X)) → find nat_cmp q es ≡ lookup (nat_eq q) es
  find-lookup q [] = refl
  find-lookup q (e ∷ es) = ap (λ b. cond b (Some e.1) (find nat_cmp q es)) (tied_numbers q e.0)
      ∙ ap (cond (nat_eq q e.0) (Some e.1)) (find-lookup q es)

  -- a list of entries, as a map, answers as a look-up from the front
  pub get-entries_of : (es : List (ℕ × X)) (q : ℕ) → get (from_entries {R = nat_cmp} es) q ≡ lookup (nat_eq q) es
  get-entries_of es q = get-from_entries nat_cmp_total es q ∙ find-lookup q es

  pub same_numbers : (m n : FinMap nat_cmp X) → ((q : ℕ) → get m q ≡ get n q) → m ≡ n
  same_numbers m n same = same_map nat_cmp_total nat_cmp-IsAntisymmetric m n same

  pub get-insert_at : (m : FinMap nat_cmp X) (k : ℕ) (v : X) (q : ℕ)
      → get (insert m k v) q ≡ cond (nat_eq q k) (Some v) (get m q)
  get-insert_at m k v q = get-insert nat_cmp_total m k v q ∙ ap (λ b. cond b (Some v) (get m q)) (tied_numbers q k)

  pub get-remove_at : (m : FinMap nat_cmp X) (k q : ℕ) → get (remove m k) q ≡ cond (nat_eq q k) None (get m q)
  get-remove_at m k q = get-remove nat_cmp_total m k q ∙ ap (λ b. cond b None (get m q)) (tied_numbers q k)

  -- what a change at one key leaves, as a map
  pub entries_inserted : (es fs : List (ℕ × X)) (k : ℕ) (v : X)
      → ((q : ℕ) → lookup (nat_eq q) fs ≡ cond (nat_eq k q) (Some v) (lookup (nat_eq q) es))
      → from_entries {R = nat_cmp} fs ≡ insert (from_entries es) k v
  entries_inserted es fs k v says = grind (arith, same_numbers, get-entries_of, get-insert_at)

  pub entries_removed : (es fs : List (ℕ × X)) (k : ℕ)
      → ((q : ℕ) → lookup (nat_eq q) fs ≡ cond (nat_eq k q) None (lookup (nat_eq q) es))
      → from_entries {R = nat_cmp} fs ≡ remove (from_entries es) k
  entries_removed es fs k says = grind (arith, same_numbers, get-entries_of, get-remove_at)

-- what the live part of a map answers
pub get-live_part : (k : ℕ) (m : FinMap nat_cmp Entry) (q : ℕ)
    → get (live_part k m) q ≡ if_live k (get m q)
get-live_part k m q = grind (arith, get-retain_keys)

pub if_live-true : (k : ℕ) (e : Entry) → is_live_before k e ≡ true → if_live k (Some e) ≡ Some e
if_live-true k e h = ap (λ b. cond b (Some e) None) h

pub if_live-false : (k : ℕ) (e : Entry) → is_live_before k e ≡ false → if_live k (Some e) ≡ None
if_live-false k e h = ap (λ b. cond b (Some e) None) h

-- what a look-up by the next derivation answers, from what the list of entries does
pub seen : (next i : ℕ) (es : List (ℕ × Entry)) (o r : Option Entry) → o ≡ lookup (nat_eq i) es
    → if_live next o ≡ r → r ≡ if_live next (get (from_entries {R = nat_cmp} es) i)
seen next i es o r found live = sym live ∙ ap (if_live next) (found ∙ sym (get-entries_of es i))

module _ {X : Type 0} where
  absent : (k : ℕ) (es : List (ℕ × X)) → AllByRecursion (λ y. nat_eq k y ≡ false) (keys_of es)
      → lookup (nat_eq k) es ≡ None
  absent k [] h = refl
  absent k (e ∷ es) h = ap (λ b. cond b (Some e.1) (lookup (nat_eq k) es)) h.0 ∙ absent k es h.1

  -- distinct keys are as many as the map has
  pub len-entries_of : (es : List (ℕ × X)) → IsDistinct nat_eq (keys_of es)
      → length es ≡ len (from_entries {R = nat_cmp} es)
  len-entries_of [] h = sym (len-empty nat_cmp X)
  len-entries_of (e ∷ es) h =
      let new : contains_key (from_entries {R = nat_cmp} es) e.0 ≡ false =
      ap is_some (get-entries_of es e.0 ∙ absent e.0 es (IsDistinct-head nat_eq e.0 (keys_of es) h)) in
      let step : len (from_entries {R = nat_cmp} (e ∷ es)) ≡ len (from_entries {R = nat_cmp} es) +
      1 = search (rules, len-insert) in
      let rest = len-entries_of es (IsDistinct-tail nat_eq e.0 (keys_of es) h) in
      omega (arith, step, rest)

pub same_table : (s t : Table) → s.first ≡ t.first → s.next ≡ t.next → s.entries ≡ t.entries → s ≡ t
same_table s t a b c = λ i. record { first = a i; next = b i; entries = c i }
