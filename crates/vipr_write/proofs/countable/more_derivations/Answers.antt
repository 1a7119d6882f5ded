use Rattle.std.proofs.Common.{suc, ◌+◌, ◌*◌, length, ap, ◌∙◌}
use Rattle.vipr_cert.specs.{Items.derivation_of, declared.items.Derivation.Derivation}
use Rattle.vipr_write.specs.Canonical.{reason_words, reference_words, derivation_words}
use Rattle.vipr_bytes.specs.Hands.{counted}
use Rattle.vipr_write.proofs.Weighing.{weighs_next, derivation_weight, in_turn}
use Rattle.vipr_write.proofs.countable.more_derivations.Goals as goal

pub loop-derivation-preserved : goal.loop-derivation-preserved
loop-derivation-preserved c =
    let x = c.derivation-item.result in
    let d = derivation_of x in
    let words = c.more_references-total.ensures
    ∙ ap (λ r. counted (c.more-total.result + suc (length (reference_words r))))
    c.references.ensures in
    let row = 8 + 2 * length c.entries.result.now in
    let reason = length (reason_words d.reason) in
    weighs_next (λ (x : Derivation). suc (length (derivation_words (derivation_of x))))
    c.args.derivations.now c.loop-derivation.derivation-index x c.args.total
    c.loop-derivation.total c.more_references-total.result
    (row + reason) c.loop-derivation-test.true c.derivation-item.is c.loop-derivation.invariant
    (derivation_weight d c.entries.result.now c.entries.ensures.list)
    (in_turn c.loop-derivation.total row reason c.more-total.result
    c.more_references-total.result c.more-total.ensures words)
