use Rattle.std.proofs.Common.{[], sym}
use Rattle.std.specs.Prelude.{codes}
use Rattle.vipr_linear.specs.declared.row.Solution.{Solution}
use Rattle.vipr_cert.specs.{Items.solution_of, declared.items.Named.Named}
use Rattle.vipr_write.specs.Canonical.{heading, solution_words, line_text}
use Rattle.vipr_write.proofs.Parts.{headed}
use Rattle.vipr_bytes.proofs.Laws.{puts_all, puts_same, puts_then}
use Rattle.vipr_write.proofs.sections.put_solutions.Goals as goal

pub returns : goal.returns
returns g c =
    let f = λ (s : Named Solution). line_text (solution_words (solution_of s)) in
    puts_same (sym
    (headed [] (heading (codes "SOL")) solution_words solution_of c.args.solutions.now))
    (puts_then c.put_heading.ensures
    (puts_all f c.args.solutions.now c.loop-solution.solution-index c.loop-solution-test.false
    c.loop-solution.invariant))
