-- A table of entries by index, from which those that nothing may refer to any more are forgotten.
use Rattle.std.specs.Prelude.{◌≡◌, ℕ, ◌+◌, Bool, Option, None, Some, is_some, if◌then◌else◌}
use Rattle.std.specs.FinMap as map
use Rattle.std.specs.Ordering.{nat_cmp}
use Rattle.vipr_spec.specs.{Certificate.lasts_to, Constraint.at, Constraint.NamesBelow}
use Rattle.vipr_table.specs.declared.rows.Entry.{Entry}

-- the first index, the index of the next entry, and the entries by index
pub record Table : Type 0 where
  pub first : ℕ
  pub next : ℕ
  pub entries : map.FinMap nat_cmp Entry

-- the last derivation that may refer to the entry, if there is one
abbrev pub expiry : Entry → Option ℕ
expiry e = if e.is_assumption then None else e.last

-- whether derivation k or a later one may refer to the entry
abbrev pub is_live_before : ℕ → Entry → Bool
is_live_before k e = lasts_to k (expiry e)

-- the entry, if it is live before k
abbrev pub if_live : ℕ → Option Entry → Option Entry
if_live k None = None
if_live k (Some e) = if is_live_before k e then Some e else None

-- the entries that are live before k
abbrev pub live_part : ℕ → map.FinMap nat_cmp Entry → map.FinMap nat_cmp Entry
live_part k m = map.retain_keys m (λ i. is_some (if_live k (map.get m i)))

-- no entries, and the first one gets the index `first`
abbrev pub empty_table : ℕ → Table
empty_table first = record { first = first; next = first; entries = map.empty }

-- what is not live after the next index is forgotten
abbrev pub advance_table : Table → Table
advance_table t = record t { entries = live_part (t.next + 1) t.entries }

-- the entry takes the next index
abbrev pub put_entry : Table → Entry → Table
put_entry t e = record t { next = t.next + 1; entries = map.insert t.entries t.next e }

-- the entry at an index that the next derivation may refer to
abbrev pub entry_at : Table → ℕ → Option Entry
entry_at t i = if_live t.next (map.get t.entries i)

abbrev pub held_count : Table → ℕ
held_count t = map.len t.entries

-- the table after the next derivation: what expires before it is forgotten, and its entry is placed
abbrev pub step : Table → Entry → Table
step t e = put_entry (advance_table t) e

-- the constraints of the table have no variable from n on
pub record DerivedBelow (n : ℕ) (t : Table) : Type 0 where
  pub each : (i : ℕ) (e : Entry) → map.get t.entries i ≡ Some e → NamesBelow n (at e.constraint.row)
