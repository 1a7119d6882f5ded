use Rattle.std.proofs.Common.{◌≡◌, nat_eq, not, true, false, map, ap, sym, ◌∙◌, subst}
use Rattle.vipr_spec.specs.{Reading.is_nonzero, Tightened.referred_by}
use Rattle.vipr_tighten.proofs.Referring.{entry_referred, entry_skipped, none_referred}
use Rattle.vipr_tighten.proofs.Pairs.{pair_inside, pair_read}
use Rattle.vipr_tighten.proofs.renumber.set_last_named.Goals as goal
use Rattle.vipr_tighten.proofs.renumber.set_last_named.Goals.{then-not-is_zero, else-not-is_zero}

pub loop-entry-init : goal.loop-entry-init
loop-entry-init g c = λ view. none_referred c.args.last c.args.first
    (map (g.D.Tightenable.derived view) c.args.kept.now)

pub loop-entry-preserved : goal.loop-entry-preserved
loop-entry-preserved g c = λ view.
    let pair = g.E.SumEntry.pair in
    let es = c.args.entries.now in
    let n = c.loop-entry.entry-index in
    let x = c.entry-item.result in
    let there = pair_inside pair es n c.loop-entry-test.true in
    let is = pair_read pair es n x c.loop-entry-test.true c.entry-item.is in
    elim c.if-not-is_zero.branch [
      | then-not-is_zero w ↦
          let t : is_nonzero (pair x) ≡ true = ap not (sym c.is_zero.ensures ∙ w.if-not-is_zero.true) in
          let set = subst
          (λ i. map (g.D.Tightenable.derived view) w.set_last_at.new.kept ≡ referred_by
          (λ j. nat_eq j i) c.args.last c.args.first
          (map (g.D.Tightenable.derived view) c.loop-entry.kept)) w.index.ensures
          (w.set_last_at.ensures view) in
          rw w.kept-is (entry_referred c.args.last c.args.first (map pair es) n (pair x) there is
          (map (g.D.Tightenable.derived view) c.args.kept.now)
          (map (g.D.Tightenable.derived view) c.loop-entry.kept) (c.loop-entry.invariant view)
          (map (g.D.Tightenable.derived view) w.set_last_at.new.kept) t set)
      | else-not-is_zero w ↦
          let t : is_nonzero (pair x) ≡ false = ap not (sym c.is_zero.ensures ∙ w.if-not-is_zero.false) in
          rw w.kept-is (entry_skipped c.args.last c.args.first (map pair es) n (pair x) there is
          (map (g.D.Tightenable.derived view) c.args.kept.now)
          (map (g.D.Tightenable.derived view) c.loop-entry.kept) (c.loop-entry.invariant view)
          t)
    ]
