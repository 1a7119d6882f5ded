use Rattle.std.proofs.Common.{ap, ◌∙◌}
use Rattle.vipr_bytes.proofs.Laws.{puts_same}
use Rattle.vipr_cert.specs.Items.{derivation_of}
use Rattle.vipr_spec.specs.Constraint.{Row}
use Rattle.vipr_write.specs.{Canonical.line_text, Folded.Begun, Forms.derivation_words_in}
use Rattle.vipr_write.proofs.Folding.{pushed}
use Rattle.vipr_write.proofs.folded.FoldedText.push_derivation.Goals as goal

pub invariant_of-self : goal.invariant_of-self
invariant_of-self c =
    (pushed c.self.inside.folded c.put_derivation.new.out c.or_empty.new.self
    c.self.inside.objective _ c.args.self.now c.or_empty.result c.put_derivation.ensures
    c.self.invariant.0 c.self.invariant.1 c.self.view_is c.or_empty.ensures).0

pub returns-clause-ok : goal.returns-clause-ok
returns-clause-ok c =
    let f = c.self.inside.folded in
    let d = derivation_of c.args.derivation.now in
    let line = puts_same
    (ap (λ (o : Row). line_text (derivation_words_in f.form o d)) c.self.invariant.1
    ∙ ap (λ (b : Begun). line_text (derivation_words_in b.form b.objective d)) c.self.view_is)
    c.put_derivation.ensures in
    (pushed f c.put_derivation.new.out c.or_empty.new.self c.self.inside.objective _ c.args.self.now
    c.or_empty.result line c.self.invariant.0 c.self.invariant.1 c.self.view_is
    c.or_empty.ensures).1

pub returns-clause-err : goal.returns-clause-err
returns-clause-err c =
    (pushed c.self.inside.folded c.put_derivation.new.out c.or_empty.new.self
    c.self.inside.objective _ c.args.self.now c.or_empty.result c.put_derivation.ensures
    c.self.invariant.0 c.self.invariant.1 c.self.view_is c.or_empty.ensures).2
