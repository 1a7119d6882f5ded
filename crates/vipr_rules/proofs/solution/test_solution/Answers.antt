use Rattle.std.proofs.Common.{Some, None, inl, inr, refl, sym, subst}
use Rattle.std.proofs.lemmas.Result.{err_from_is_err_and}
use Rattle.vipr_spec.specs.Constraint.{Row, at, ValueFits}
use Rattle.vipr_spec.specs.{Certificate.Problem, Certificate.variables, Tests.objective_fits}
use Rattle.vipr_linear.specs.Values.{IsLaidOut}
use Rattle.vipr_rules.specs.Solution.{IsValueOf}
use Rattle.vipr_rules.proofs.SolutionLemmas.{integers_fail, constraints_fail, objective_last}
use Rattle.vipr_rules.proofs.SolutionLemmas.{objective_below}
use Rattle.vipr_rules.proofs.solution.test_solution.Goals as goal
use Rattle.vipr_rules.proofs.solution.test_solution.Goals.{After-laid_value-value}

pub returns-in_err-test_integers-clause-tested : goal.returns-in_err-test_integers-clause-tested
returns-in_err-test_integers-clause-tested c =
    let p = c.args.p.now in
    let q = err_from_is_err_and c.from_residual.result c.from_residual.ensures.1 in
    rw (q.1, q.2)
    (integers_fail p c.args.solution.now.0 _
    (c.in_err-test_integers.ensures p (sym c.ints.ensures.integers)
    c.objective-objective.ensures.writes.shape.integers))

-- the objective's value at the solution, once that is laid out
module _ (c : After-laid_value-value) where
  abbrev p : Problem
  p = c.args.p.now

  abbrev s : Row
  s = c.args.solution.now.0

  columns_for : IsLaidOut (variables p) (at s) c.lay_out.new.self.sums
  columns_for = subst (λ n. IsLaidOut n (at s) c.lay_out.new.self.sums) c.requires.variables c.lay_out.ensures

  is : IsValueOf (variables p) (at p.objective) (at s) c.laid_value-value.result
  is =
      let known = c.objective-objective.ensures in
      let below = objective_below p c.objective-objective.result.now known.objective known.writes in
      subst (λ r. IsValueOf (variables p) (at r) (at s) c.laid_value-value.result) known.objective
      (c.laid_value-value.ensures (variables p) (at s) columns_for below)

pub returns-in_err-test_constraints-clause-tested :
    goal.returns-in_err-test_constraints-clause-tested
returns-in_err-test_constraints-clause-tested c =
    let k = (goal.at.returns-in_err-test_constraints-clause-tested c).After-laid_value-value in
    let q = err_from_is_err_and c.from_residual-in_err-test_constraints.result
    c.from_residual-in_err-test_constraints.ensures.1 in
    rw (q.1, q.2)
    (constraints_fail (p k) (s k) _
    (c.in_ok-test_integers.ensures (p k) (sym c.ints.ensures.integers)
    c.objective-objective.ensures.writes.shape.integers)
    (c.in_err-test_constraints.ensures (s k) (columns_for k) (is k)))

pub returns-in-Some-clause-tested : goal.returns-in-Some-clause-tested
returns-in-Some-clause-tested c =
    let k = (goal.at.returns-in-Some-clause-tested c).After-laid_value-value in
    let good = subst (IsValueOf (variables (p k)) (at (p k).objective) (at (s k))) c.in-Some.is (is k) in (
      objective_last (p k) (s k) None
          (c.in_ok-test_integers.ensures (p k) (sym c.ints.ensures.integers)
          c.objective-objective.ensures.writes.shape.integers)
          (c.in_ok-test_constraints.ensures (s k) (columns_for k) (is k)) (inl (good.0, refl)),
      good.1,
    )

pub returns-in-None-clause-tested : goal.returns-in-None-clause-tested
returns-in-None-clause-tested c =
    let k = (goal.at.returns-in-None-clause-tested c).After-laid_value-value in
    let bad : ¬ ValueFits (variables (p k)) (at (p k).objective) (at (s k)) =
    subst (IsValueOf (variables (p k)) (at (p k).objective) (at (s k))) c.in-None.is (is k) in (
      objective_last (p k) (s k) (Some objective_fits)
          (c.in_ok-test_integers.ensures (p k) (sym c.ints.ensures.integers)
          c.objective-objective.ensures.writes.shape.integers)
          (c.in_ok-test_constraints.ensures (s k) (columns_for k) (is k)) (inr (bad, refl)),
      λ name. refl,
    )
