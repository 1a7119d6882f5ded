use Rattle.std.proofs.Common.{◌≡◌, false}
use Rattle.vipr_spec.specs.{Certificate.Problem, Reading.solution_read}
use Rattle.vipr_read.specs.Items.{Knows}
use Rattle.vipr_write.specs.Canonical.{solution_words}
use Rattle.vipr_text.specs.Spelling.{HasAppended}
use Rattle.vipr_text.proofs.respelling.solution_lines.Given as goal

abbrev pub invariant-loop-text : goal.invariant-loop-text
invariant-loop-text g l = record {
  working : l.solutions.failed ≡ false;
  lines : (p : Problem) → Knows l.initial.solutions p
      → HasAppended (solution_read p) solution_words l.initial.solutions l.solutions l.initial.text
      l.text;
}

abbrev pub decreases-loop-text : goal.decreases-loop-text
decreases-loop-text g l = l.solutions.left
