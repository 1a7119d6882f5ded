use Rattle.std.proofs.Common.{◌≡◌, ◌+◌, ◌*◌, ◌^◌, ◌≤◌, length, take}
use Rattle.std.specs.FinSet.{from_list}
use Rattle.vipr_table.specs.Bits.{page_set}
use Rattle.vipr_table.proofs.assumptions.page.words_of.Given as goal

abbrev pub invariant-loop-item : goal.invariant-loop-item
invariant-loop-item l = record {
  within : 64 * (l.first + length l.words.items) ≤ 2 ^ 32;
  so_far : page_set l.first l.words.items ≡ from_list (take l.item-index l.items);
}
