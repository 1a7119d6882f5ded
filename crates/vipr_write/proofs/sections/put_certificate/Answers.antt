use Rattle.std.proofs.Common.{map, sym, ap, ◌∙◌}
use Rattle.vipr_cert.specs.Items.{derivation_of}
use Rattle.vipr_write.specs.Canonical.{solutions_lines, lines_text}
use Rattle.vipr_write.specs.Forms.{problem_lines_in, derivations_lines_in}
use Rattle.vipr_write.proofs.Parts.{certificate_parts}
use Rattle.vipr_bytes.proofs.Laws.{puts_then, puts_same}
use Rattle.vipr_write.proofs.sections.put_certificate.Goals as goal

pub returns : goal.returns
returns g c =
    let form = c.args.form in
    let problem =
    puts_same (ap (λ p. lines_text (problem_lines_in form p)) c.problem-problem.ensures)
    c.put_problem.ensures in
    let solutions = puts_same (ap (λ ss. lines_text (solutions_lines ss)) c.solutions.ensures)
    c.put_solutions.ensures in
    let derivations =
    puts_same (ap
    (λ o. lines_text (derivations_lines_in form o (map derivation_of c.derivations.result.now)))
    (c.objective.ensures.objective ∙ ap (λ p. p.objective) c.problem-problem.ensures)
    ∙ ap (λ ds. lines_text
    (derivations_lines_in form c.args.certificate.now.problem.objective ds))
    c.derivations.ensures.derivations) c.put_derivations.ensures in
    puts_same (sym (certificate_parts form c.args.certificate.now))
    (puts_then (puts_then problem solutions) derivations)
