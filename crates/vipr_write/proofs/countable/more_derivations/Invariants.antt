use Rattle.std.proofs.Common.{suc, length}
use Rattle.vipr_cert.specs.{Items.derivation_of, declared.items.Derivation.Derivation}
use Rattle.vipr_write.specs.Canonical.{derivation_words}
use Rattle.vipr_write.proofs.Weighing.{Weighs}
use Rattle.vipr_write.proofs.countable.more_derivations.Given as goal

abbrev pub invariant-loop-derivation : goal.invariant-loop-derivation
invariant-loop-derivation l =
    Weighs (λ (x : Derivation). suc (length (derivation_words (derivation_of x)))) l.derivations
    l.derivation-index l.total-2 l.total
