use Rattle.std.proofs.Common.{◌+◌, ◌≤◌, length, drop, sum}
use Rattle.vipr_write.specs.Folded.{expanded, full}
use Rattle.vipr_write.proofs.Unfolding.{PutUpTo}
use Rattle.vipr_write.proofs.folded.put_full.Given as goal

abbrev pub invariant-loop-gap : goal.invariant-loop-gap
invariant-loop-gap g l = record {
  within : l.at + sum (drop l.gap-index l.folded.gaps.items) ≤ length l.folded.text.bytes.items;
  put : PutUpTo g.O.Out.carries l.initial.out l.out
      (expanded l.folded.spelled.items (drop l.gap-index l.folded.gaps.items)
      (drop l.at l.folded.text.bytes.items)) (full l.folded);
}
