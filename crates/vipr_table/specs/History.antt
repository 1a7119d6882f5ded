-- The table of a certificate whose derivations so far are placed.
use Rattle.std.specs.Prelude.{◌≡◌, ◌↔◌, ℕ, ◌+◌, Bool, ◌&&◌, ◌||◌, nat_eq, nat_le, Option, Some}
use Rattle.std.specs.Prelude.{is_some, length, IsTrue}
use Rattle.std.specs.FinMap as map
use Rattle.std.specs.FinSet as set
use Rattle.vipr_spec.specs.Certificate.{Certificate, constraint_at, reason_at, last_at, RestsOn}
use Rattle.vipr_spec.specs.Certificate.{is_assumption, is_live, count}
use Rattle.vipr_table.specs.{Table.Table, declared.rows.Entry.Entry}
use Rattle.vipr_linear.specs.Constraint.{condition_of}

-- the entry says of constraint i what the certificate does
pub record IsEntryOf (c : Certificate) (i : ℕ) (e : Entry) : Type 0 where
  pub says : constraint_at c i ≡ condition_of e.constraint
  pub rests : (a : ℕ) → IsTrue (set.contains e.assumptions a) ↔ RestsOn c i a
  pub is_assumed : e.is_assumption ≡ is_assumption (reason_at c i)
  pub last : e.last ≡ last_at c i

-- constraint i is derived
abbrev pub is_derived : Certificate → ℕ → Bool
is_derived c i = nat_le (length c.problem.constraints) i

-- constraint i is derived, and is the last one or live after it
abbrev pub is_held : Certificate → ℕ → Bool
is_held c i = is_derived c i && (nat_eq (i + 1) (count c) || is_live c (count c) i)

-- the table has the entries of exactly those that are held
pub record IsTableOf (c : Certificate) (t : Table) : Type 0 where
  pub first : t.first ≡ length c.problem.constraints
  pub next : t.next ≡ count c
  pub held : (i : ℕ) → is_some (map.get t.entries i) ≡ is_held c i
  pub entry : (i : ℕ) (e : Entry) → map.get t.entries i ≡ Some e → IsEntryOf c i e

-- a look-up answers the entries of exactly the derived constraints that are live before the next
-- derivation
pub record FindsLive (c : Certificate) (i : ℕ) (found : Option Entry) : Type 0 where
  pub live : is_some found ≡ (is_derived c i && is_live c (count c) i)
  pub entry : (e : Entry) → found ≡ Some e → IsEntryOf c i e
