-- A list that keeps every entry, and marks those that are forgotten.
use Rattle.std.specs.Prelude.{◌≡◌, ℕ, zero, suc, ◌+◌, ◌≤◌, true, cond, List, [], ◌∷◌, length, All}
use Rattle.std.specs.Prelude.{Option, None, Some}
use Rattle.std.specs.FinMap as map
use Rattle.std.specs.Ordering.{nat_cmp}
use Rattle.vipr_table.specs.declared.rows.keep_all.Kept.{Kept}
use Rattle.vipr_table.specs.{Expiry.IsTied, declared.rows.Entry.Entry}

-- the entries that are not forgotten, by index from `first` on
abbrev pub entries_not_forgotten : ℕ → List Kept → map.FinMap nat_cmp Entry
entries_not_forgotten first [] = map.empty
entries_not_forgotten first (k ∷ ks) =
    cond k.is_forgotten (entries_not_forgotten (first + 1) ks)
    (map.insert (entries_not_forgotten (first + 1) ks) first k.entry)

abbrev pub entry_if_kept : Option Kept → Option Entry
entry_if_kept None = None
entry_if_kept (Some k) = cond k.is_forgotten None (Some k.entry)

-- the list, with the entry at a place marked
abbrev pub forget_at : List Kept → ℕ → List Kept
forget_at [] i = []
forget_at (k ∷ ks) zero = record k { is_forgotten = true } ∷ ks
forget_at (k ∷ ks) (suc i) = k ∷ forget_at ks i

-- each index up to `next` has its place, and the pairs and the count are those of the entries that
-- are not forgotten
pub record IsKept (first next : ℕ) (ks : List Kept) (held : ℕ) (ds : List (ℕ × ℕ)) : Type 0 where
  pub placed : next ≡ first + length ks
  pub tied : IsTied next (entries_not_forgotten first ks) ds
  pub begins : All (λ (d : ℕ × ℕ). first ≤ d.1) ds
  pub count : held ≡ map.len (entries_not_forgotten first ks)
