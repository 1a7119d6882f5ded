use Rattle.std.proofs.Common.{take}
use Rattle.std.specs.List.{flat_map}
use Rattle.vipr_linear.specs.{Constraint.constraint_of, declared.constraint.Constraint.Constraint}
use Rattle.vipr_write.specs.{Canonical.line_text, Forms.given_words_in}
use Rattle.vipr_cert.specs.{Items.named_of, declared.items.Named.Named}
use Rattle.vipr_bytes.specs.Puts.{Puts}
use Rattle.vipr_write.proofs.sections.put_constraints.Given as goal

abbrev pub invariant-loop-constraint : goal.invariant-loop-constraint
invariant-loop-constraint g l = Puts g.O.Out.carries l.initial.out l.out
    (flat_map (λ (c : Named Constraint).
    line_text (given_words_in l.form l.objective (named_of constraint_of c)))
    (take l.constraint-index l.cons))
