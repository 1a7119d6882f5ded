use Rattle.std.proofs.Common.{[], ◌∷◌, map, sym, ap, ◌∙◌}
use Rattle.vipr_linear.specs.Constraint.{constraint_of}
use Rattle.vipr_cert.specs.Items.{named_of}
use Rattle.std.specs.Prelude.{codes}
use Rattle.vipr_write.specs.Canonical.{direction_word, vector_words, claim_words, line_text}
use Rattle.vipr_write.specs.Canonical.{lines_text}
use Rattle.vipr_write.specs.Lines.{constraints_lines_in}
use Rattle.vipr_write.proofs.Parts.{problem_parts_in}
use Rattle.vipr_bytes.proofs.Laws.{puts_then, puts_same}
use Rattle.vipr_write.proofs.sections.put_problem.Goals as goal

pub returns : goal.returns
returns g c =
    let p = c.args.problem.now in
    let direction =
    puts_same (ap (λ d. line_text (codes "OBJ" ∷ direction_word d ∷ [])) c.sense.ensures)
    c.put_goal.ensures in
    let objective =
    puts_same (ap (λ r. line_text (vector_words r)) c.objective-objective.ensures.objective)
    c.put_coefficients.ensures in
    let form = c.args.form in
    let listed = map (named_of constraint_of) c.cons.result.now in
    let constraints =
    puts_same (ap (λ o. lines_text (constraints_lines_in form o listed c.bound_count.result))
    c.objective-objective.ensures.objective
    ∙ ap (λ cs. lines_text (constraints_lines_in form p.objective cs c.bound_count.result))
    c.cons.ensures.constraints
    ∙ ap (λ n. lines_text (constraints_lines_in form p.objective p.constraints n))
    c.bound_count.ensures) c.put_constraints.ensures in
    let claim = puts_same (ap (λ k. line_text (claim_words k)) c.claim.ensures) c.put_claim.ensures in
    puts_same (sym (problem_parts_in form [] p))
    (puts_then (puts_then (puts_then (puts_then c.put_variables.ensures direction) objective)
    constraints) claim)
