use Rattle.std.proofs.{Common.ap, Common.◌∙◌, lemmas.Result.err_from_is_err_and}
use Rattle.vipr_spec.specs.Reading.{derivation_read, end_read}
use Rattle.vipr_cert.specs.Items.{derivation_of}
use Rattle.vipr_write.specs.Folded.{Begun, with_more_bytes}
use Rattle.vipr_write.specs.{Canonical.line_text, Forms.derivation_words_in}
use Rattle.vipr_text.proofs.SpellingLemmas.{none_yet, one_more, still_knows, stops, unspent}
use Rattle.vipr_text.proofs.respelling.derivation_lines.Goals as goal

pub lines-init : goal.lines-init
lines-init g c = record {
  working = c.requires;
  lines = λ p knows. none_yet (derivation_read p)
      (derivation_words_in c.args.text.form c.args.text.objective) c.args.derivations.now
      c.args.text c.requires;
}

pub returns-in_err-found : goal.returns-in_err-found
returns-in_err-found g c p knows =
    let q = err_from_is_err_and c.from_residual.result c.from_residual.ensures.1 in
    let e = c.in_err-found.field-0.0 in
    let mid = c.lines.derivations in
    let h = c.lines.invariant.lines p knows in
    rw (q.1, q.2) (
      unspent c.next_into.result e mid.failed c.in_err-found.was c.next_into.ensures.spent c.lines.invariant.working,
      stops (derivation_read p) (derivation_words_in c.args.text.form c.args.text.objective)
          end_read e c.args.derivations.now mid c.args.text c.lines.text h
          (c.in_err-found.ensures.read p
          (still_knows p c.args.derivations.now mid knows h.remembers)),
    )

pub lines-preserved : goal.lines-preserved
lines-preserved g c =
    let r = rw c.if-not-found.false at c.in_ok-found.ensures in
    let mid = c.lines.derivations in
    record {
      working = r.moves.working;
      lines = λ p knows.
          let h = c.lines.invariant.lines p knows in
          one_more (derivation_read p) (derivation_words_in c.args.text.form c.args.text.objective)
          c.args.derivations.now mid c.next_into.new.self c.args.text c.lines.text
          c.push_derivation.new.self (derivation_of c.next_into.new.step) h r.moves.counted
          r.moves.remembers r.moves.working
          (λ known. let next = r.read p (still_knows p c.args.derivations.now mid knows h.remembers)
          known in (next.1, next.2))
          (c.in_ok-push_derivation.ensures.ok
          ∙ ap (λ (b : Begun). with_more_bytes c.lines.text
          (line_text (derivation_words_in b.form b.objective
          (derivation_of c.next_into.new.step)))) h.lines);
    }
