use Rattle.std.proofs.Common.{[], ◌∷◌}
use Rattle.vipr_write.specs.Canonical.{line_text}
use Rattle.vipr_bytes.proofs.Laws.{puts_lines}
use Rattle.vipr_write.proofs.sections.put_names.Goals as goal

pub returns : goal.returns
returns g c = puts_lines line_text (λ name. name ∷ []) c.args.names.now c.loop-name.name-index
    c.loop-name-test.false c.loop-name.invariant
