use Rattle.std.proofs.Common.{◌+◌, ap, ◌∙◌}
use Rattle.vipr_bytes.specs.Hands.{counted}
use Rattle.vipr_write.proofs.StepReasons.{short_length}
use Rattle.vipr_write.proofs.countable.more_references.Goals as goal

pub returns-in-Short : goal.returns-in-Short
returns-in-Short c =
    rw c.in-Short.is
    (c.more-in-Short.ensures ∙ ap (λ n. counted (c.args.total + n)) (short_length c.in-Short.entries.now))
