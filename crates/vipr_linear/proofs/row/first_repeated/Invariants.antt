use Rattle.std.proofs.Common.{ℕ, ◌≡◌, take, nat_eq}
use Rattle.std.specs.{BTreeSet.contains, List.IsDistinct, List.list_any, Ordering.nat_cmp}
use Rattle.vipr_linear.specs.Row.{variables_of}
use Rattle.vipr_linear.proofs.row.first_repeated.Given as goal

abbrev pub invariant-loop-pair : goal.invariant-loop-pair
invariant-loop-pair l = record {
  distinct : IsDistinct nat_eq (take l.pair-index (variables_of l.pairs));
  seen : (q : ℕ) → contains nat_cmp l.seen q ≡ list_any (nat_eq q) (take l.pair-index (variables_of l.pairs));
}
