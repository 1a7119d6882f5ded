-- The union of sets that were added one after another
use Rattle.std.specs.Prelude.{◌≡◌, ◌⊎◌, ℕ, Bool, IsTrue}
use Rattle.std.specs.BTreeSet as note
use Rattle.std.specs.FinSet as set
use Rattle.std.specs.Ordering.{nat_cmp}
use Rattle.vipr_table.specs.{Sets.union_of_all, declared.assumptions.union.Union.Union}

abbrev pub union_so_far : Union → set.FinSet nat_cmp
union_so_far u =
    set.union (set.union (union_of_all u.below.items) u.last) (set.from_list u.few.items)

-- constraint i is noted as one whose set was added
abbrev pub has_noted : Union → ℕ → Bool
has_noted u i = note.contains nat_cmp u.noted i

-- v notes what u does, and at most constraint i besides
abbrev pub NotesAtMost : ℕ → Union → Union → Type 0
NotesAtMost i u v = (j : ℕ) → IsTrue (has_noted v j) → IsTrue (has_noted u j) ⊎ (j ≡ i)
