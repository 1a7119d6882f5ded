use Rattle.std.proofs.Common.{◌≡◌, ◌<◌, ℕ, false, nat_eq, take, get_or, length}
use Rattle.std.specs.List.{list_any}
use Rattle.vipr_linear.proofs.ints.marks_of.Given as goal

abbrev pub invariant-loop-index : goal.invariant-loop-index
invariant-loop-index l = (j : ℕ) → j < length l.marks.items
    → get_or l.marks.items j false ≡ list_any (nat_eq j) (take l.index-index l.indices)
