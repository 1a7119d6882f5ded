use Rattle.std.proofs.Common.{◌+◌, ◌++◌, drop, slice_range, subst}
use Rattle.std.specs.Prelude.{slice_index_or}
use Rattle.vipr_write.specs.Folded.{expanded, full}
use Rattle.vipr_write.proofs.Unfolding.{PutUpTo, up_to_more, up_to_end, next_gap}
use Rattle.vipr_write.proofs.folded.put_full.Goals as goal

pub returns-then-has_failed : goal.returns-then-has_failed
returns-then-has_failed g c = up_to_end c.loop-gap.invariant.put (c.has_failed.ensures c.if-has_failed.true _)

pub loop-gap-preserved : goal.loop-gap-preserved
loop-gap-preserved g c =
    let f = c.args.folded.now in
    let at = c.loop-gap.at in
    let i = c.loop-gap.gap-index in
    let end = at + slice_index_or c.deref-gap-items.result.now i 0 in
    let piece = slice_range c.as_slice-text.result.now at end in
    let row = c.deref.result.now in
    let tail = expanded f.spelled.items (drop (i + 1) f.gaps.items) (drop end f.text.bytes.items) in
    let next = next_gap f.spelled.items f.gaps.items f.text.bytes.items c.deref-gap-items.result.now
    c.as_slice-text.result.now row i at c.deref-gap-items.ensures.value c.as_slice-text.ensures
    c.deref.ensures.value c.loop-gap-test.true c.loop-gap.invariant.within in
    let put = subst (λ t. PutUpTo g.O.Out.carries c.args.out.now c.loop-gap.out t (full f)) next.0
    c.loop-gap.invariant.put in
    record {
      within = next.1;
      put = up_to_more row tail (up_to_more piece (row ++ tail) put c.put.ensures)
          c.put-in-loop-gap.ensures;
    }
