use Rattle.std.proofs.Common.{None, inl, ◌∙◌, refl, sym, ap, subst}
use Rattle.std.proofs.lemmas.Result.{err_from_is_err_and}
use Rattle.vipr_spec.specs.Constraint.{at, value, ValueFits}
use Rattle.vipr_spec.specs.Certificate.{variables}
use Rattle.vipr_rules.proofs.SolutionLemmas.{integers_fail, objective_last, objective_below}
use Rattle.vipr_rules.proofs.solution.test_solution_by_columns.Goals as goal

pub returns-in_err-test_integers-clause-tested : goal.returns-in_err-test_integers-clause-tested
returns-in_err-test_integers-clause-tested c =
    let p = c.args.p.now in
    let q = err_from_is_err_and c.from_residual.result c.from_residual.ensures.1 in
    rw (q.1, q.2)
    (integers_fail p c.args.solution.now.0 _
    (c.in_err-test_integers.ensures p (sym c.ints.ensures.integers)
    c.objective-objective.ensures.writes.shape.integers))

pub find_met-requires-clause-room : goal.find_met-requires-clause-room
find_met-requires-clause-room c =
    let p = c.args.p.now in
    let known = c.objective-objective.ensures in
    let below = objective_below p c.objective-objective.result.now known.objective known.writes in
    subst (λ r. ValueFits (variables p) (at r) (at c.args.solution.now.0)) known.objective
    ((c.in-Ok.ensures.fits (variables p) below).0 refl)

pub returns-clause-tested : goal.returns-clause-tested
returns-clause-tested c =
    let p = c.args.p.now in
    let s = c.args.solution.now.0 in
    let known = c.objective-objective.ensures in
    let below = objective_below p c.objective-objective.result.now known.objective known.writes in
    let room = subst (λ r. ValueFits (variables p) (at r) (at s)) known.objective
    ((c.in-Ok.ensures.fits (variables p) below).0 refl) in (
      objective_last p s None
          (c.in_ok-test_integers.ensures p (sym c.ints.ensures.integers)
          known.writes.shape.integers) (c.find_met.ensures.met c.if-not-find_met.false)
          (inl (room, refl)),
      c.in-Ok.ensures.value (variables p) below ∙ ap (λ r. value (variables p) (at r) (at s)) known.objective,
    )
