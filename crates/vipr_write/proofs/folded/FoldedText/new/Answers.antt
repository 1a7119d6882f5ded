use Rattle.std.proofs.Common.{rules, ap, ◌∙◌}
use Rattle.vipr_write.specs.Canonical.{lines_text, line_text, heading}
use Rattle.vipr_write.specs.{Folded.Begun, Folded.begun, Forms.problem_lines_in}
use Rattle.std.specs.Prelude.{codes, ◌++◌}
use Rattle.vipr_bytes.proofs.Laws.{puts_then}
use Rattle.vipr_write.proofs.Folding.{intact_more}
use Rattle.vipr_write.proofs.folded.FoldedText.new.Goals as goal

pub invariant_of-result : goal.invariant_of-result
invariant_of-result c =
    let empty = c.in_ok-folded.ensures in
    let kept = c.in_ok-or_empty.ensures.ok in
    let whole = intact_more c.in_ok-folded.folded c.put_heading.new.out _ _
    (puts_then c.put_problem.ensures c.put_heading.ensures) empty.0 empty.1 kept.0 in
    (rw kept.1 whole.0, search rules)

pub returns : goal.returns
returns c =
    let empty = c.in_ok-folded.ensures in
    let kept = c.in_ok-or_empty.ensures.ok in
    let whole = intact_more c.in_ok-folded.folded c.put_heading.new.out _ _
    (puts_then c.put_problem.ensures c.put_heading.ensures) empty.0 empty.1 kept.0 in
    ap begun kept.1 ∙ whole.1
    ∙ ap (λ o. let b : Begun = record {
      form = c.args.form;
      objective = o;
      bytes = lines_text (problem_lines_in c.args.form c.args.problem.now)
          ++ line_text (heading (codes "SOL") c.args.solutions);
    } in b) c.objective.ensures.objective
