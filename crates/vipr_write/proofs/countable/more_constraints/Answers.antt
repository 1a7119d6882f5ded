use Rattle.std.proofs.Common.{suc, ◌+◌, ◌*◌, length}
use Rattle.vipr_linear.specs.{Constraint.constraint_of, declared.constraint.Constraint.Constraint}
use Rattle.vipr_cert.specs.{Items.named_of, declared.items.Named.Named}
use Rattle.vipr_write.specs.Canonical.{given_words}
use Rattle.vipr_write.proofs.Weighing.{weighs_next, constraint_weight}
use Rattle.vipr_write.proofs.countable.more_constraints.Goals as goal

pub loop-constraint-preserved : goal.loop-constraint-preserved
loop-constraint-preserved c =
    let x = c.constraint-item.result in
    weighs_next (λ (x : Named Constraint). suc (length (given_words (named_of constraint_of x))))
    c.args.cons.now c.loop-constraint.constraint-index x c.args.total c.loop-constraint.total
    c.more-total.result (5 + 2 * length c.entries.result.now) c.loop-constraint-test.true
    c.constraint-item.is c.loop-constraint.invariant
    (constraint_weight x.name (constraint_of x.item) c.entries.result.now
    c.entries.ensures.list) c.more-total.ensures
