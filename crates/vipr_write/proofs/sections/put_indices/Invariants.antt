use Rattle.std.proofs.Common.{take, [], ◌∷◌}
use Rattle.std.specs.{Fmt.decimal, List.flat_map}
use Rattle.vipr_write.specs.Canonical.{line_text}
use Rattle.vipr_bytes.specs.Puts.{Puts}
use Rattle.vipr_write.proofs.sections.put_indices.Given as goal

abbrev pub invariant-loop-index : goal.invariant-loop-index
invariant-loop-index g l = Puts g.O.Out.carries l.initial.out l.out
    (flat_map (λ j. line_text (decimal j ∷ [])) (take l.index-index l.indices))
