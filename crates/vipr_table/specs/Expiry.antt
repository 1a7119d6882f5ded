-- The order in which entries expire, and how a table and that order belong together
use Rattle.std.specs.Prelude.{◌≡◌, ℕ, ◌<◌, List, ◌∷◌, map, Option, None, Some, All, Contains}
use Rattle.std.specs.Prelude.{IsPermutation}
use Rattle.std.specs.declared.collections.binary_heap.BinaryHeap.{BinaryHeap}
use Rattle.std.specs.{BinaryHeap.heap_items, Ordering.nat_cmp, Ordering.ordering_then}
use Rattle.std.specs.{declared.cmp.Ordering.Ordering, declared.cmp.Reverse.Reverse}
use Rattle.std.specs.FinMap as finmap
use Rattle.vipr_table.specs.{Table.expiry, declared.rows.Entry.Entry}

-- ---- a heap of pairs: the last derivation that may refer to an entry, and its index

-- the earliest pair is the greatest
abbrev pub due_cmp : Reverse (ℕ × ℕ) → Reverse (ℕ × ℕ) → Ordering
due_cmp x y = ordering_then (nat_cmp y.0.0 x.0.0) (nat_cmp y.0.1 x.0.1)

abbrev pub dues : {Z : Type 0} → BinaryHeap (Reverse (ℕ × ℕ)) Z → List (ℕ × ℕ)
dues heap = map (λ r. r.0) (heap_items heap)

-- the pairs after an index with this expiry is noted: one more, if it expires
abbrev pub Notes : Option ℕ → ℕ → List (ℕ × ℕ) → List (ℕ × ℕ) → Type 0
Notes None index ds es = es ≡ ds
Notes (Some last) index ds es = IsPermutation ((last, index) ∷ ds) es

-- ---- the entries of a table

-- each pair is of an index that was given out; an entry at it expires with it; and each entry that
-- expires has its pair
pub record IsTied (next : ℕ) (m : finmap.FinMap nat_cmp Entry) (ds : List (ℕ × ℕ)) : Type 0 where
  pub below : All (λ (d : ℕ × ℕ). d.1 < next) ds
  pub right : All (λ (d : ℕ × ℕ). (e : Entry) → finmap.get m d.1 ≡ Some e → expiry e ≡ Some d.0) ds
  pub listed :
      (i last : ℕ) (e : Entry) → finmap.get m i ≡ Some e → expiry e ≡ Some last
      → Contains ds (last, i)
