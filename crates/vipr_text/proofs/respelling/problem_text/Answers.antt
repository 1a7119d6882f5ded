use Rattle.std.proofs.Common.{◌++◌, ap, ◌∙◌}
use Rattle.std.specs.Prelude.{codes}
use Rattle.vipr_write.specs.Canonical.{heading, line_text, lines_text}
use Rattle.vipr_write.specs.{Folded.Begun, Forms.problem_lines_in}
use Rattle.vipr_text.proofs.respelling.problem_text.Goals as goal

pub returns : goal.returns
returns g c =
    let problem = c.in_ok-problem in
    record {
      problem = problem.problem;
      lines = c.in_ok-text.ensures
          ∙ ap (λ n. let b : Begun =
          record {
            form = c.args.form;
            objective = problem.problem.objective;
            bytes = lines_text (problem_lines_in c.args.form problem.problem)
                ++ line_text (heading (codes "SOL") n);
          } in b) c.left.ensures;
      knows = problem.ensures.knows;
      working = problem.ensures.working;
      read = problem.ensures.read;
    }
