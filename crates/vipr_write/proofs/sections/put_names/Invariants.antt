use Rattle.std.proofs.Common.{take, [], ◌∷◌}
use Rattle.std.specs.List.{flat_map}
use Rattle.vipr_write.specs.Canonical.{line_text}
use Rattle.vipr_bytes.specs.Puts.{Puts}
use Rattle.vipr_write.proofs.sections.put_names.Given as goal

abbrev pub invariant-loop-name : goal.invariant-loop-name
invariant-loop-name g l = Puts g.O.Out.carries l.initial.out l.out
    (flat_map (λ name. line_text (name ∷ [])) (take l.name-index l.names))
