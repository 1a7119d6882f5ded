use Rattle.std.proofs.Common.{[], sym}
use Rattle.vipr_linear.specs.{Constraint.constraint_of, declared.constraint.Constraint.Constraint}
use Rattle.vipr_write.specs.{Canonical.line_text, Forms.given_words_in, Lines.constraints_heading}
use Rattle.vipr_cert.specs.{Items.named_of, declared.items.Named.Named}
use Rattle.vipr_write.proofs.Parts.{headed}
use Rattle.vipr_bytes.proofs.Laws.{puts_all, puts_same, puts_then}
use Rattle.vipr_write.proofs.sections.put_constraints.Goals as goal

pub returns : goal.returns
returns g c =
    let f = λ (x : Named Constraint).
    line_text (given_words_in c.args.form c.args.objective.now (named_of constraint_of x)) in
    puts_same (sym
    (headed [] (constraints_heading c.args.bound_count)
    (given_words_in c.args.form c.args.objective.now) (named_of constraint_of) c.args.cons.now))
    (puts_then c.put_counts.ensures
    (puts_all f c.args.cons.now c.loop-constraint.constraint-index c.loop-constraint-test.false
    c.loop-constraint.invariant))
