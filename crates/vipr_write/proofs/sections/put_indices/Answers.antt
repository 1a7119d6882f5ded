use Rattle.std.proofs.Common.{[], ◌∷◌}
use Rattle.std.specs.Fmt.{decimal}
use Rattle.vipr_write.specs.Canonical.{line_text}
use Rattle.vipr_bytes.proofs.Laws.{puts_lines}
use Rattle.vipr_write.proofs.sections.put_indices.Goals as goal

pub returns : goal.returns
returns g c = puts_lines line_text (λ j. decimal j ∷ []) c.args.indices.now c.loop-index.index-index
    c.loop-index-test.false c.loop-index.invariant
