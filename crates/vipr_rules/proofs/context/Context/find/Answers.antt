use Rattle.std.proofs.Common.{All, [], ◌∷◌, sym, ap, subst, ◌∙◌}
use Rattle.std.proofs.lemmas.Result.{err_from_is_err_and}
use Rattle.vipr_spec.specs.{Certificate.Problem, Certificate.variables, Constraint.IsTrueAt}
use Rattle.vipr_spec.specs.{Constraint.condition, Shape.ConstraintShape, Steps.earlier, Steps.live}
use Rattle.vipr_linear.specs.declared.constraint.Constraint.{Constraint}
use Rattle.vipr_cert.specs.declared.items.Named.{Named}
use Rattle.vipr_rules.proofs.GivenLemmas.{given_below, given_true}
use Rattle.vipr_rules.proofs.ContextLemmas.{given_is_live, given_is_known, derived_is_live}
use Rattle.vipr_rules.proofs.ContextLemmas.{derived_is_known, dropped_is_not, live_passes}
use Rattle.vipr_rules.proofs.ContextLemmas.{live_stops}
use Rattle.vipr_rules.proofs.StepLemmas.{stops_first}
use Rattle.vipr_rules.proofs.context.Context.find.Goals as goal

pub returns-in_err-check_earlier-clause-known : goal.returns-in_err-check_earlier-clause-known
returns-in_err-check_earlier-clause-known g c = λ P d e is.
    let p = err_from_is_err_and c.from_residual.result c.from_residual.ensures.1 in
    rw (p.1, p.2) (stops_first P d e (earlier c.args.index ∷ []) (live c.args.index ∷ []) _
    (c.in_err-check_earlier.ensures P d e is))

pub returns-then-index-given-clause-known : goal.returns-then-index-given-clause-known
returns-then-index-given-clause-known g c = λ P d e is.
    let same = c.cons-given.ensures.constraints ∙ sym (ap (λ (q : Problem). q.constraints) is.problem) in (
      live_passes P d e c.args.index (c.in_ok-check_earlier.ensures P d e is)
          (given_is_live d _ _ same is.rows c.args.index c.if-index-given.true),
      given_is_known d _ _ same is.rows c.args.index c.index-given-index.result _
          c.if-index-given.true c.index-given-index.is
          (ap (λ (n : Named Constraint). n.item) (sym c.index-given-index.is)),
    )

pub returns-then-index-given-clause-below : goal.returns-then-index-given-clause-below
returns-then-index-given-clause-below g c = λ below.
    let n = variables c.args.self.now.problem.now in
    let within = given_below n c.cons-given.result.now
    (subst (All (ConstraintShape n)) (sym c.cons-given.ensures.constraints)
    c.cons-given.ensures.writes.shape.constraints) in
    within c.args.index c.index-given-index.result c.if-index-given.true

pub returns-then-index-given-clause-sound : goal.returns-then-index-given-clause-sound
returns-then-index-given-clause-sound g c = λ says x at h.
    let n = variables c.args.self.now.problem.now in
    let each = given_true n x c.cons-given.result.now
    (subst (All (λ c. IsTrueAt n (condition c.item) x)) (sym c.cons-given.ensures.constraints)
    at.admitted.feasible.meets) in
    each c.args.index c.index-given-index.result c.if-index-given.true

pub returns-in-Some-clause-known : goal.returns-in-Some-clause-known
returns-in-Some-clause-known g c = λ P d e is.
    let same = c.cons-given.ensures.constraints ∙ sym (ap (λ (q : Problem). q.constraints) is.problem) in (
      live_passes P d e c.args.index (c.in_ok-check_earlier.ensures P d e is)
          (derived_is_live d _ _ same is.rows c.args.index c.in-Some.entry.now
          c.if-index-given.false c.in-Some.ensures),
      derived_is_known d _ _ same is.rows c.args.index c.in-Some.entry c.in-Some.ensures,
    )

pub returns-in-None-clause-known : goal.returns-in-None-clause-known
returns-in-None-clause-known g c = λ P d e is.
    let same = c.cons-given.ensures.constraints ∙ sym (ap (λ (q : Problem). q.constraints) is.problem) in
    live_stops P d e c.args.index (c.in_ok-check_earlier.ensures P d e is)
    (dropped_is_not d _ _ same is.rows c.args.index c.if-index-given.false c.in-None.ensures)
