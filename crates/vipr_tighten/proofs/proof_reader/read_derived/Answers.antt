use Rattle.std.proofs.Common.{[], ◌∷◌, ◌++◌, ◌∙◌, subst}
use Rattle.std.proofs.lemmas.List.Elements.{All-push}
use Rattle.vipr_spec.specs.Shape.{DerivationShape, DerivationFits}
use Rattle.vipr_spec.specs.{Checking.start, Steps.with_more, Tests.none}
use Rattle.vipr_check.specs.declared.no_proof.NoProof.TheVariants as reason
use Rattle.vipr_cert.specs.Items.{derivation_of}
use Rattle.vipr_check.specs.Reasons.{stop_reason, text_reason}
use Rattle.vipr_tighten.proofs.Reading.{err_given, step_accepted, step_refused}
use Rattle.vipr_tighten.proofs.Reading.{step_unread, at_end, finish_answers}
use Rattle.vipr_tighten.proofs.proof_reader.read_derived.Goals as goal

pub returns-in_err-take_from-clause-unproved :
    goal.returns-in_err-take_from-clause-unproved
returns-in_err-take_from-clause-unproved g c =
    let e = c.in_err-take_from.field-0.0 in
    err_given _ c.from_residual-in_err-take_from.result
    (stop_reason e) c.from_residual-in_err-take_from.ensures.1 (λ P p ss is known.
    let (ds, steps, keeps) = c.steps.invariant.read in
    let h = rw c.if-not-found.false at c.in_ok-found.ensures in
    let s = start p ss in
    let now = with_more s ds in
    let kept = keeps P p ss is in
    step_refused P s now c.steps.checker c.take_from.new.self c.args.derivations.now
    c.steps.derivations kept c.next_into.new.self (derivation_of c.next_into.new.step)
    h.moves.counted h.moves.remembers h.moves.working
    (λ t. let r = h.read p kept.is_at.knows t in (r.1, r.2)) h.shape.reason e
    (c.in_err-take_from.ensures.next now kept.is_at.runs kept.is_at.has) known)

pub steps-preserved : goal.steps-preserved
steps-preserved g c =
    let h = rw c.if-not-found.false at c.in_ok-found.ensures in
    let (ds, steps, keeps) = c.steps.invariant.read in
    let first = c.args.derivations.now in
    let d = derivation_of c.next_into.new.step in
    let old = c.steps.derivations in
    let step = c.in_ok-kept.ensures in
    let same = c.steps.invariant.same in
    rw c.in_ok-push.ensures.items (record {
      same = record { form = step.form ∙ same.form; objective = step.objective ∙ same.objective };
      variables = h.moves.remembers.variables ∙ c.steps.invariant.variables;
      read = (
        ds ++ d ∷ [],
        record {
          kept = step.kept c.steps.steps.items ds steps.kept;
          shapes = All-push (DerivationShape first.variables) ds d steps.shapes
              (subst (λ n. DerivationShape n d) c.steps.invariant.variables h.shape);
          fit = All-push DerivationFits ds d steps.fit h.fits;
        },
        λ P p ss is.
            let kept = keeps P p ss is in
            let now = with_more (start p ss) ds in
            step_accepted P (start p ss) now c.steps.checker c.take_from.new.self first old kept
            c.next_into.new.self d h.moves.counted h.moves.remembers h.moves.working
            (λ t. let r = h.read p kept.is_at.knows t in (r.1, r.2))
            (c.in_ok-take_from.ensures.next now kept.is_at.runs kept.is_at.has),
      );
    })

pub returns-in_err-report-clause-unproved : goal.returns-in_err-report-clause-unproved
returns-in_err-report-clause-unproved g c =
    let e = c.in_err-report.field-0.0 in
    let h = rw c.if-not-found.true at c.in_ok-found.ensures in
    err_given _ c.from_residual-in_err-report.result
    (stop_reason e) c.from_residual-in_err-report.ensures.1 (λ P p ss is known.
    let (ds, steps, keeps) = c.steps.invariant.read in
    let kept = keeps P p ss is in
    let d = with_more (start p ss) ds in
    let whole = at_end P (start p ss) d c.steps.checker c.steps.checker c.args.derivations.now
    c.steps.derivations kept (h.read p kept.is_at.knows) in
    finish_answers P (start p ss) c.args.derivations.now d c.steps.checker c.finish.new.self whole
    known e (c.in_err-report.ensures.next d whole.runs whole.has))

pub returns-then-not-found-clause-kept : goal.returns-then-not-found-clause-kept
returns-then-not-found-clause-kept g c =
    let h = rw c.if-not-found.true at c.in_ok-found.ensures in
    let (ds, steps, keeps) = c.steps.invariant.read in (
      ds,
      steps,
      λ P p ss is.
          let kept = keeps P p ss is in
          let d = with_more (start p ss) ds in
          let whole = at_end P (start p ss) d c.steps.checker c.steps.checker c.args.derivations.now
          c.steps.derivations kept (h.read p kept.is_at.knows) in
          record { before = c.steps.checker; whole = whole; done = c.in_ok-report.ensures.next d whole.runs whole.has },
    )

pub returns-in_err-found-clause-unproved : goal.returns-in_err-found-clause-unproved
returns-in_err-found-clause-unproved g c =
    let e = c.in_err-found.field-0.0 in
    err_given _ c.from_residual.result (text_reason e) c.from_residual.ensures.1 (λ P p ss is known.
    let (ds, steps, keeps) = c.steps.invariant.read in
    let kept = keeps P p ss is in
    step_unread P (start p ss) (with_more (start p ss) ds) c.steps.checker c.steps.checker
    c.args.derivations.now c.steps.derivations kept e
    (c.in_err-found.ensures.read p kept.is_at.knows (kept.known known)) known)

pub returns-in_err-kept-clause-unproved : goal.returns-in_err-kept-clause-unproved
returns-in_err-kept-clause-unproved g c =
    err_given _ c.from_residual-in_err-kept.result reason.Memory
    c.from_residual-in_err-kept.ensures.1 (λ P p ss is known. (none, tt))

pub returns-in_err-push-clause-unproved : goal.returns-in_err-push-clause-unproved
returns-in_err-push-clause-unproved g c =
    err_given _ c.from_residual-in_err-push.result reason.Memory
    c.from_residual-in_err-push.ensures.1 (λ P p ss is known. (none, tt))
