-- What an assumption set holds.
use Rattle.std.specs.{Ordering.nat_cmp, Prelude.[], Prelude.◌∷◌, Prelude.take}
use Rattle.std.specs.FinSet as set
use Rattle.vipr_table.specs.declared.assumptions.list.IndexList.TheVariants.{Nothing, One, Many}
use Rattle.vipr_table.specs.declared.assumptions.list.IndexList.TheVariants.{Longer}
use Rattle.vipr_table.specs.{Rising.IsRising, declared.assumptions.list.IndexList.IndexList}

abbrev pub listed_set : IndexList → set.FinSet nat_cmp
listed_set Nothing = set.empty
listed_set (One index) = set.from_list (index ∷ [])
listed_set (Many count items) = set.from_list (take count items.items)
listed_set (Longer pages) = pages

-- if it is one list, that rises
abbrev pub Rises : IndexList → Type 0
Rises Nothing = Unit {0}
Rises (One index) = IsRising (index ∷ [])
Rises (Many count items) = IsRising (take count items.items)
Rises (Longer _) = Unit {0}
