use Rattle.std.proofs.Common.{take}
use Rattle.std.specs.List.{flat_map}
use Rattle.vipr_linear.specs.declared.row.Solution.{Solution}
use Rattle.vipr_cert.specs.{Items.solution_of, declared.items.Named.Named}
use Rattle.vipr_write.specs.Canonical.{solution_words, line_text}
use Rattle.vipr_bytes.specs.Puts.{Puts}
use Rattle.vipr_write.proofs.sections.put_solutions.Given as goal

abbrev pub invariant-loop-solution : goal.invariant-loop-solution
invariant-loop-solution g l = Puts g.O.Out.carries l.initial.out l.out
    (flat_map (λ (s : Named Solution). line_text (solution_words (solution_of s)))
    (take l.solution-index l.solutions))
