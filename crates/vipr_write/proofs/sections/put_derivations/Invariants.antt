use Rattle.std.proofs.Common.{take}
use Rattle.std.specs.List.{flat_map}
use Rattle.vipr_cert.specs.{Items.derivation_of, declared.items.Derivation.Derivation}
use Rattle.vipr_write.specs.{Canonical.line_text, Forms.derivation_words_in}
use Rattle.vipr_bytes.specs.Puts.{Puts}
use Rattle.vipr_write.proofs.sections.put_derivations.Given as goal

abbrev pub invariant-loop-derivation : goal.invariant-loop-derivation
invariant-loop-derivation g l = Puts g.O.Out.carries l.initial.out l.out
    (flat_map (λ (d : Derivation).
    line_text (derivation_words_in l.form l.objective (derivation_of d)))
    (take l.derivation-index l.derivations))
