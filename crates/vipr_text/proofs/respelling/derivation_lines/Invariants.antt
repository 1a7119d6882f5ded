use Rattle.std.proofs.Common.{◌≡◌, false}
use Rattle.vipr_spec.specs.{Certificate.Problem, Reading.derivation_read}
use Rattle.vipr_read.specs.Items.{Knows}
use Rattle.vipr_write.specs.Forms.{derivation_words_in}
use Rattle.vipr_text.specs.Spelling.{HasAppended}
use Rattle.vipr_text.proofs.respelling.derivation_lines.Given as goal

abbrev pub invariant-lines : goal.invariant-lines
invariant-lines g l = record {
  working : l.derivations.failed ≡ false;
  lines : (p : Problem) → Knows l.initial.derivations p
      → HasAppended (derivation_read p)
      (derivation_words_in l.initial.text.form l.initial.text.objective) l.initial.derivations
      l.derivations l.initial.text l.text;
}

abbrev pub decreases-lines : goal.decreases-lines
decreases-lines g l = l.derivations.left
