use Rattle.std.proofs.lemmas.Result.{err_from_is_err_and}
use Rattle.vipr_spec.specs.Reading.{solution_read}
use Rattle.vipr_scan.specs.Giving.{rest_of}
use Rattle.vipr_write.specs.Canonical.{solution_words}
use Rattle.vipr_text.proofs.SpellingLemmas.{problem_fails, solutions_fail, count_fails}
use Rattle.vipr_text.proofs.SpellingLemmas.{were_read, still_knows, unspent, whole_text}
use Rattle.vipr_text.proofs.respelling.text_from.Goals as goal

pub returns-in_err-text : goal.returns-in_err-text
returns-in_err-text g c =
    let q = err_from_is_err_and c.from_residual.result c.from_residual.ensures.1 in
    let e = c.in_err-text.field-0.0 in
    rw (q.1, q.2) (
      c.in_err-text.ensures.0,
      λ known. problem_fails e (rest_of c.args.reader)
          (c.in_err-text.ensures.1 known),
    )

pub returns-in_err-text-2 : goal.returns-in_err-text-2
returns-in_err-text-2 g c =
    let q = err_from_is_err_and c.from_residual-in_err-text-2.result c.from_residual-in_err-text-2.ensures.1 in
    let e = c.in_err-text-2.field-0.0 in
    let old = c.in_ok-text.solutions in
    let begun = c.in_ok-text.ensures in
    let fault = c.in_err-text-2.ensures.lines begun.problem begun.knows in
    rw (q.1, q.2) (
      fault.0,
      λ known. let r = begun.read known in
          solutions_fail (rest_of c.args.reader) (rest_of old.rest) begun.problem old.left r.0 e
          (fault.1 r.1),
    )

pub returns-in_err-derivations : goal.returns-in_err-derivations
returns-in_err-derivations g c =
    let q = err_from_is_err_and c.from_residual-in_err-derivations.result
    c.from_residual-in_err-derivations.ensures.1 in
    let e = c.in_err-derivations.field-0.0 in
    let old = c.in_ok-text.solutions in
    let mid = c.solution_lines.new.solutions in
    let begun = c.in_ok-text.ensures in
    let p = begun.problem in
    let listed = c.in_ok-text-2.ensures.lines p begun.knows in
    rw (q.1, q.2) (
      unspent c.finish.result e mid.failed c.in_err-derivations.was c.finish.ensures.spent listed.0.working,
      λ known.
          let r = begun.read known in
          let solutions = were_read (solution_read p) solution_words old mid c.in_ok-text.text
          c.in_ok-text-2.text listed.0 listed.1 r.1 in
          count_fails (rest_of c.args.reader) (rest_of old.rest) p old.left r.0
          (rest_of mid.rest) listed.0.items solutions e
          (c.in_err-derivations.ensures.read p
          (still_knows p old mid begun.knows listed.0.remembers) (listed.0.known r.1)),
    )

pub returns : goal.returns
returns g c =
    let old = c.in_ok-text.solutions in
    let mid = c.solution_lines.new.solutions in
    let steps = c.in_ok-derivations.derivations in
    let new = c.derived_text-whole.new.derivations in
    let begun = c.in_ok-text.ensures in
    let p = begun.problem in
    let listed = c.in_ok-text-2.ensures.lines p begun.knows in
    let knows = still_knows p old mid begun.knows listed.0.remembers in
    whole_text c.args.form c.args.reader old mid steps new c.in_ok-text.text c.in_ok-text-2.text
    begun c.derived_text-whole.result listed.0 listed.1
    (λ known. c.in_ok-derivations.ensures.read p knows known)
    (c.derived_text-whole.ensures p (still_knows p mid steps knows c.in_ok-derivations.ensures.remembers))
