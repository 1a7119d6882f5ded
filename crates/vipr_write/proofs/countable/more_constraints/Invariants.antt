use Rattle.std.proofs.Common.{suc, length}
use Rattle.vipr_linear.specs.{Constraint.constraint_of, declared.constraint.Constraint.Constraint}
use Rattle.vipr_cert.specs.{Items.named_of, declared.items.Named.Named}
use Rattle.vipr_write.specs.Canonical.{given_words}
use Rattle.vipr_write.proofs.Weighing.{Weighs}
use Rattle.vipr_write.proofs.countable.more_constraints.Given as goal

abbrev pub invariant-loop-constraint : goal.invariant-loop-constraint
invariant-loop-constraint l =
    Weighs (λ (x : Named Constraint). suc (length (given_words (named_of constraint_of x)))) l.cons
    l.constraint-index l.total-2 l.total
