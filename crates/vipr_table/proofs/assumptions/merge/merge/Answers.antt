use Rattle.std.proofs.Common.{◌<◌, ◌≤◌, length, arith}
use Rattle.std.proofs.lemmas.Result.{IfOk-weaker}
use Rattle.vipr_table.proofs.RisingLemmas.{merge_step, merge_end, to_end}
use Rattle.vipr_table.proofs.assumptions.merge.merge.Goals as goal
use Rattle.vipr_table.proofs.assumptions.merge.merge.Goals.{then-loop-i-test+else-j-ys}
use Rattle.vipr_table.proofs.assumptions.merge.merge.Goals.{else-loop-i-test}

pub loop-i-preserved : goal.loop-i-preserved
loop-i-preserved c =
    rw c.in_ok-push.ensures.items
    (merge_step _ _ _ _ _ c.min-low.result c.loop-i.invariant c.loop-i-test.true c.if-j-ys.true c.min-low.ensures)

pub returns : goal.returns
returns c =
    let over : c.loop-i.i < length c.args.xs.now → length c.args.ys.now ≤ c.loop-i.j =
    elim c.loop-i-test.branch [
      | then-loop-i-test+else-j-ys w ↦ λ h. w.if-j-ys.false
      | else-loop-i-test w ↦ λ h. absurd (let past = w.loop-i-test.false in
          omega (arith, past, h))
    ] in
    IfOk-weaker c.extended.result _ _
    (λ v e. merge_end _ _ c.loop-i.i c.loop-i.j _ _ c.loop-i.invariant over
    (rw (← to_end c.loop-i.i c.args.xs.now, ← to_end c.loop-i.j c.args.ys.now) e))
    c.extended.ensures
