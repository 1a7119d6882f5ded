use Rattle.std.proofs.Common.{◌≡◌, ◌≤◌, ◌+◌, ◌-◌, length, take}
use Rattle.std.specs.FinSet.{union}
use Rattle.vipr_table.specs.Sets.{union_of_all}
use Rattle.vipr_table.proofs.assumptions.pages.united.Given as goal

abbrev pub invariant-loop-i : goal.invariant-loop-i
invariant-loop-i l = record {
  i_within : l.i ≤ length l.pages;
  j_within : l.j ≤ length l.others;
  so_far : union_of_all l.all.items
      ≡ union (union_of_all (take l.i l.pages)) (union_of_all (take l.j l.others));
}

abbrev pub decreases-loop-i : goal.decreases-loop-i
decreases-loop-i l = (length l.pages - l.i) + (length l.others - l.j)
