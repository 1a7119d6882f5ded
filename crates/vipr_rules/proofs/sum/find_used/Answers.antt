use Rattle.std.proofs.{Common.Some, Common.sym, Common.◌∙◌, lemmas.Result.err_from_is_err_and}
use Rattle.vipr_spec.specs.{Constraint.condition, Steps.PassesStep}
use Rattle.vipr_rules.proofs.EntryTests.{used_passes, unused_passes}
use Rattle.vipr_rules.proofs.sum.find_used.Goals as goal

pub returns-in_err-find-clause-known : goal.returns-in_err-find-clause-known
returns-in_err-find-clause-known g c = λ P d e is.
    let stops = c.in_err-find.ensures.known P d e is in
    let p = err_from_is_err_and c.from_residual.result c.from_residual.ensures.1 in
    rw (p.1, p.2) (
      stops.0,
      used_passes (PassesStep P d (condition e.stated)) c.args.entry.now
          (Some stops.0) (sym c.is_used.ensures ∙ c.if-is_used.true) stops.1,
      stops.2,
    )

pub returns-in_ok-find-clause-known : goal.returns-in_ok-find-clause-known
returns-in_ok-find-clause-known g c = λ P d e is.
    let used = sym c.is_used.ensures ∙ c.if-is_used.true in
    let known = c.in_ok-find.ensures.known P d e is in
    (used_passes (PassesStep P d (condition e.stated)) c.args.entry.now _ used known.0, (used, known.1))

pub returns-in_err-check_earlier-clause-known : goal.returns-in_err-check_earlier-clause-known
returns-in_err-check_earlier-clause-known g c = λ P d e is.
    let stops = c.in_err-check_earlier.ensures P d e is in
    let p = err_from_is_err_and c.from_residual-in_err-check_earlier.result
    c.from_residual-in_err-check_earlier.ensures.1 in
    rw (p.1, p.2) (
      stops.0,
      unused_passes (PassesStep P d (condition e.stated)) c.args.entry.now
          (Some stops.0) (sym c.is_used.ensures ∙ c.if-is_used.false) stops.1,
      stops.2,
    )

pub returns-in_ok-check_earlier-clause-known : goal.returns-in_ok-check_earlier-clause-known
returns-in_ok-check_earlier-clause-known g c = λ P d e is.
    let unused = sym c.is_used.ensures ∙ c.if-is_used.false in (
      unused_passes (PassesStep P d (condition e.stated)) c.args.entry.now _ unused
          (c.in_ok-check_earlier.ensures P d e is),
      unused,
    )
