-- Sets of numbers, and their lists.
use Rattle.std.specs.Prelude.{◌≡◌, ℕ, List, [], ◌∷◌}
use Rattle.std.specs.FinSet as set
use Rattle.std.specs.Ordering.{nat_cmp}
use Rattle.vipr_table.specs.Rising.{IsRising}

abbrev pub union_of_all : List (set.FinSet nat_cmp) → set.FinSet nat_cmp
union_of_all [] = set.empty
union_of_all (s ∷ ss) = set.union s (union_of_all ss)

-- the list has in rising order what the set has
pub record IsListOf (s : set.FinSet nat_cmp) (xs : List ℕ) : Type 0 where
  pub rising : IsRising xs
  pub is_set : set.from_list xs ≡ s
