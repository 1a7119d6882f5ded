use Rattle.std.proofs.Common.{◌≡◌, nat_eq, not, true, false, map, ap, sym, ◌∙◌, subst}
use Rattle.vipr_spec.specs.{Reading.is_nonzero}
use Rattle.vipr_tighten.specs.Passes.{MarksAlso}
use Rattle.vipr_tighten.proofs.Marking.{entry_marked, entry_passed}
use Rattle.vipr_tighten.proofs.Pairs.{pair_inside, pair_read}
use Rattle.vipr_tighten.proofs.needed.mark_entries.Goals as goal
use Rattle.vipr_tighten.proofs.needed.mark_entries.Goals.{then-not-is_zero, else-not-is_zero}

pub loop-entry-preserved : goal.loop-entry-preserved
loop-entry-preserved g c =
    let pair = g.E.SumEntry.pair in
    let es = c.args.entries.now in
    let n = c.loop-entry.entry-index in
    let x = c.entry-item.result in
    let there = pair_inside pair es n c.loop-entry-test.true in
    let is = pair_read pair es n x c.loop-entry-test.true c.entry-item.is in
    elim c.if-not-is_zero.branch [
      | then-not-is_zero w ↦
          let t : is_nonzero (pair x) ≡ true = ap not (sym c.is_zero.ensures ∙ w.if-not-is_zero.true) in
          let marked =
          subst (λ i. MarksAlso c.args.first (λ j. nat_eq j i) c.loop-entry.marks
          w.mark.new.marks) w.index.ensures w.mark.ensures in
          rw w.marks-is
          (entry_marked c.args.first (map pair es) n (pair x) there is c.args.marks.now
          c.loop-entry.marks c.loop-entry.auto.marks w.mark.new.marks t c.loop-entry.invariant
          marked)
      | else-not-is_zero w ↦
          let t : is_nonzero (pair x) ≡ false = ap not (sym c.is_zero.ensures ∙ w.if-not-is_zero.false) in
          rw w.marks-is
          (entry_passed c.args.first (map pair es) n (pair x) there is c.args.marks.now
          c.loop-entry.marks c.loop-entry.auto.marks t c.loop-entry.invariant)
    ]
