use Rattle.std.proofs.Common.{arith, ◌≡◌, nat_eq, take, true, false}
use Rattle.std.specs.List.{list_any}
use Rattle.std.proofs.lemmas.Grind.{common_steps}
use Rattle.vipr_linear.specs.Row.{variables_of}
use Rattle.vipr_linear.proofs.Rows.{first_repeated_at, distinct_more, seen_more, nothing_distinct}
use Rattle.vipr_linear.proofs.row.first_repeated.Goals as goal

pub loop-pair-init : goal.loop-pair-init
loop-pair-init c = record { distinct = nothing_distinct; seen = λ q. grind (arith, common_steps) }

pub loop-pair-preserved : goal.loop-pair-preserved
loop-pair-preserved c =
    let new : list_any (nat_eq c.pair-item.result.0)
    (take c.loop-pair.pair-index (variables_of c.args.pairs.now)) ≡ false =
    grind (arith, c.loop-pair.invariant.seen c.pair-item.result.0) in
    record {
      distinct = distinct_more _ _ c.pair-item.result (omega arith) c.pair-item.is c.loop-pair.invariant.distinct new;
      seen = λ q. seen_more _ _ c.pair-item.result (omega arith) c.pair-item.is q _ _
          (c.loop-pair.invariant.seen q) (c.in_ok-insert.ensures.updates.0 q);
    }

pub returns-then-not-branch : goal.returns-then-not-branch
returns-then-not-branch c =
    let old : list_any (nat_eq c.pair-item.result.0)
    (take c.loop-pair.pair-index (variables_of c.args.pairs.now)) ≡ true =
    grind (arith, c.loop-pair.invariant.seen c.pair-item.result.0) in
    first_repeated_at _ _ c.pair-item.result (omega arith) c.pair-item.is c.loop-pair.invariant.distinct old
