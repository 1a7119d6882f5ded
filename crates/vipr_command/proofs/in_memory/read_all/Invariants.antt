use Rattle.std.proofs.Common.{◌≡◌, false}
use Rattle.std.specs.Prelude.{IfSome}
use Rattle.vipr_command.specs.Answer.{HasRead}
use Rattle.vipr_command.proofs.in_memory.read_all.Given as goal

abbrev pub invariant-loop-text : goal.invariant-loop-text
invariant-loop-text g l = record {
  read : IfSome (g.R.Source.input l.initial.source) (λ i. HasRead i (g.R.Source.input l.source) l.text.bytes.items);
  working : l.text.has_failed ≡ false;
}

abbrev pub decreases-loop-text : goal.decreases-loop-text
decreases-loop-text g l = g.R.Source.reads_left l.source
