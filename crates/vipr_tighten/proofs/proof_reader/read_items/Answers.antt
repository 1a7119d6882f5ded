use Rattle.std.proofs.Common.{sym, ◌∙◌, ap}
use Rattle.vipr_spec.specs.{Certificate.Problem, Tests.none}
use Rattle.vipr_check.specs.Reasons.{text_reason}
use Rattle.vipr_tighten.proofs.Reading.{err_given, unread_answers, at_then, later_answers}
use Rattle.vipr_tighten.proofs.Reading.{proof_kept}
use Rattle.vipr_tighten.proofs.proof_reader.read_items.Goals as goal

pub returns-in_err-derivations-clause-unproved : goal.returns-in_err-derivations-clause-unproved
returns-in_err-derivations-clause-unproved g c =
    let e = c.in_err-derivations.field-0.0 in
    err_given _ c.from_residual.result (text_reason e) c.from_residual.ensures.1 (λ P p is known.
    let (ss, lines, meets) = c.in_default.ensures.kept in
    let met = meets P p is in
    unread_answers P p c.args.solutions ss c.read_listed.new.checker c.read_listed.new.solutions met
    c.in_default.ensures.none e (c.in_err-derivations.ensures.read p met.listed.is_among.knows)
    known)

pub returns-in_default-new-clause-unproved : goal.returns-in_default-new-clause-unproved
returns-in_default-new-clause-unproved g c = λ P p is known. (none, tt)

pub read_derived-derived-requires-clause-at : goal.read_derived-derived-requires-clause-at
read_derived-derived-requires-clause-at g c =
    let (P, p, is) = c.requires.among in
    let (ss, lines, meets) = c.in_default.ensures.kept in
    let f = c.in_ok-derivations.ensures in (
      P,
      p,
      ss,
      at_then P p c.args.solutions ss c.read_listed.new.checker c.read_listed.new.solutions
          (meets P p is) c.in_default.ensures.none c.in_ok-derivations.derivations f.remembers
          f.working f.counted,
    )

pub returns-in-Err-derived-clause-unproved : goal.returns-in-Err-derived-clause-unproved
returns-in-Err-derived-clause-unproved g c = λ P p is known.
    let (ss, lines, meets) = c.in_default.ensures.kept in
    let k = c.read_listed.new.checker in
    let s = c.read_listed.new.solutions in
    let u = c.in_ok-derivations.derivations in
    let f = c.in_ok-derivations.ensures in
    let none = c.in_default.ensures.none in
    let met = meets P p is in
    let at = at_then P p c.args.solutions ss k s met none u f.remembers f.working f.counted in
    later_answers P p c.args.solutions ss k s met none u f.remembers f.working f.counted
    (f.read p met.listed.is_among.knows) c.in-Err-derived.reason
    (c.in-Err-derived.ensures.unproved P p ss at) known

pub returns-in-Ok-derived-clause-kept : goal.returns-in-Ok-derived-clause-kept
returns-in-Ok-derived-clause-kept g c = λ P p is.
    let (ss, lines, meets) = c.in_default.ensures.kept in
    let k = c.read_listed.new.checker in
    let s = c.read_listed.new.solutions in
    let u = c.in_ok-derivations.derivations in
    let f = c.in_ok-derivations.ensures in
    let none = c.in_default.ensures.none in
    let met = meets P p is in
    let at = at_then P p c.args.solutions ss k s met none u f.remembers f.working f.counted in
    let (ds, steps, finished) = c.in-Ok-derived.ensures.kept in
    let (same_problem, writes, proof) =
    proof_kept P p c.args.solutions ss k s met none u f.remembers f.working f.counted
    (f.read p met.listed.is_among.knows)
    ds c.in-Ok-derived.report c.read_derived-derived.new.checker is.knows (lines.shapes, lines.fit)
    (steps.shapes, steps.fit) (finished P p ss at) in
    let same = c.in-Ok-derived.ensures.same in
    let first = c.in-Ok.ensures in
    let objective = same.objective
    ∙ (first.objective
    ∙ (c.objective.ensures.objective
    ∙ ap (λ (q : Problem). q.objective) (c.problem.ensures ∙ sym at.has.problem))) in (
      same_problem,
      record { form = same.form ∙ first.form; objective = objective },
      ss,
      ds,
      lines.text,
      steps.kept,
      writes,
      proof,
    )
