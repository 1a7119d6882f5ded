use Rattle.std.proofs.lemmas.Result.{err_from_is_err_and}
use Rattle.vipr_spec.specs.Reading.{solution_read}
use Rattle.vipr_cert.specs.Items.{solution_of}
use Rattle.vipr_write.specs.Canonical.{solution_words}
use Rattle.vipr_text.proofs.SpellingLemmas.{no_ending, none_yet, one_more, still_knows, stops}
use Rattle.vipr_text.proofs.SpellingLemmas.{unspent}
use Rattle.vipr_text.proofs.respelling.solution_lines.Goals as goal

pub loop-text-init : goal.loop-text-init
loop-text-init g c = record {
  working = c.requires;
  lines = λ p knows. none_yet (solution_read p) solution_words c.args.solutions.now c.args.text c.requires;
}

pub returns-in_err-solution-clause-lines : goal.returns-in_err-solution-clause-lines
returns-in_err-solution-clause-lines g c p knows =
    let q = err_from_is_err_and c.from_residual.result c.from_residual.ensures.1 in
    let e = c.in_err-solution.field-0.0 in
    let mid = c.loop-text.solutions in
    let h = c.loop-text.invariant.lines p knows in
    rw (q.1, q.2) (
      unspent c.next.result e mid.failed c.in_err-solution.was c.next.ensures.spent c.loop-text.invariant.working,
      stops (solution_read p) solution_words no_ending e c.args.solutions.now mid c.args.text
          c.loop-text.text h
          (c.in_err-solution.ensures.read p
          (still_knows p c.args.solutions.now mid knows h.remembers)),
    )

pub loop-text-preserved : goal.loop-text-preserved
loop-text-preserved g c =
    let r = rw c.in-Some.is at c.in_ok-solution.ensures in
    let mid = c.loop-text.solutions in
    record {
      working = r.moves.working;
      lines = λ p knows.
          let h = c.loop-text.invariant.lines p knows in
          one_more (solution_read p) solution_words c.args.solutions.now mid c.next.new.self
          c.args.text c.loop-text.text c.push_solution-pushed.new.self
          (solution_of c.in-Some.solution) h r.moves.counted r.moves.remembers r.moves.working
          (λ known. let next = r.read p (still_knows p c.args.solutions.now mid knows h.remembers)
          known in (next.1, next.2)) c.in_ok-pushed.ensures.ok;
    }
