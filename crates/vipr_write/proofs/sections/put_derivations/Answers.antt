use Rattle.std.proofs.Common.{[], sym}
use Rattle.std.specs.Prelude.{codes}
use Rattle.vipr_cert.specs.{Items.derivation_of, declared.items.Derivation.Derivation}
use Rattle.vipr_write.specs.{Canonical.heading, Canonical.line_text, Forms.derivation_words_in}
use Rattle.vipr_write.proofs.Parts.{headed}
use Rattle.vipr_bytes.proofs.Laws.{puts_all, puts_next, puts_same, puts_then}
use Rattle.vipr_write.proofs.sections.put_derivations.Goals as goal

pub loop-derivation-preserved : goal.loop-derivation-preserved
loop-derivation-preserved g c =
    puts_next (λ (x : Derivation).
    line_text (derivation_words_in c.args.form c.args.objective.now (derivation_of x)))
    c.args.derivations.now c.loop-derivation.derivation-index c.derivation-item.result
    c.loop-derivation-test.true c.derivation-item.is c.loop-derivation.invariant
    c.put_derivation.ensures

pub returns : goal.returns
returns g c =
    let f = λ (d : Derivation). line_text (derivation_words_in c.args.form c.args.objective.now (derivation_of d)) in
    puts_same (sym
    (headed [] (heading (codes "DER")) (derivation_words_in c.args.form c.args.objective.now)
    derivation_of c.args.derivations.now))
    (puts_then c.put_heading.ensures
    (puts_all f c.args.derivations.now c.loop-derivation.derivation-index
    c.loop-derivation-test.false c.loop-derivation.invariant))
