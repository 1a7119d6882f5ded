use Rattle.std.proofs.Common.{◌≡◌, ◌<◌, ◌≤◌, length, sym, subst}
use Rattle.std.proofs.lemmas.Result.{err_from_is_err_and}
use Rattle.vipr_spec.specs.Certificate.{Problem, variables}
use Rattle.vipr_spec.specs.{Constraint.Row, Constraint.at, Tests.given_at}
use Rattle.vipr_linear.specs.{Constraint.constraint_of, Values.IsLaidOut}
use Rattle.vipr_rules.specs.Solution.{IsValueOf}
use Rattle.vipr_rules.proofs.SolutionLemmas.{as_many, given_is, given_below, true_next}
use Rattle.vipr_rules.proofs.SolutionLemmas.{constraint_fails, all_true}
use Rattle.vipr_rules.proofs.solution.test_constraints.Goals as goal
use Rattle.vipr_rules.proofs.solution.test_constraints.Goals.{After-value_beside-row_value}

-- the constraint that an iteration tests, and the value of its row
module _ (c : After-value_beside-row_value) where
  abbrev p : Problem
  p = c.args.p.now

  within : c.loop-i.i < length p.constraints
  within = subst (λ n. c.loop-i.i < n)
      (as_many p c.cons-named-items.result.now c.cons-named-items.ensures.constraints)
      c.loop-i-test.true

  this : given_at p c.loop-i.i ≡ constraint_of c.named-item.result.item
  this = given_is p c.cons-named-items.result.now c.cons-named-items.ensures.constraints c.loop-i.i
      c.named-item.result c.loop-i-test.true c.named-item.is

  value_here : (s : Row) → IsLaidOut (variables p) (at s) c.args.point.now.sums
      → IsValueOf (variables p) (at p.objective) (at s) c.args.value.now
      → IsValueOf (variables p) (at c.named-item.result.item.row)
      (at s) c.value_beside-row_value.result
  value_here s columns_for is =
      c.value_beside-row_value.ensures (variables p) (at s) columns_for
      (given_below p c.cons-named-items.result.now c.cons-named-items.ensures.constraints c.loop-i.i
      c.named-item.result c.loop-i-test.true c.named-item.is c.cons-named-items.ensures.writes)
      (subst (λ r. IsValueOf (variables p) (at r) (at s) c.args.value.now)
      (sym c.objective-objective.ensures.objective) is)

pub returns-in_err-test_constraint : goal.returns-in_err-test_constraint
returns-in_err-test_constraint c = λ s columns_for is.
    let k = (goal.at.returns-in_err-test_constraint c).After-value_beside-row_value in
    let bad = c.in_err-test_constraint.ensures (p k) s (this k) (value_here k s columns_for is) in
    let q = err_from_is_err_and c.from_residual.result c.from_residual.ensures.1 in
    rw (q.1, q.2) (constraint_fails (p k) s c.loop-i.i (within k) (c.loop-i.invariant s columns_for is) _ bad)

pub loop-i-preserved : goal.loop-i-preserved
loop-i-preserved c = λ s columns_for is.
    let k = (goal.at.loop-i-preserved c).After-value_beside-row_value in
    true_next (p k) s c.loop-i.i (within k) (c.loop-i.invariant s columns_for is)
    (c.in_ok-test_constraint.ensures (p k) s (this k) (value_here k s columns_for is))

pub returns : goal.returns
returns c = λ s columns_for is.
    let p = c.args.p.now in
    let cons = c.cons-named-items in
    all_true p s c.loop-i.i
    (subst (λ n. n ≤ c.loop-i.i) (as_many p cons.result.now cons.ensures.constraints)
    c.loop-i-test.false) (c.loop-i.invariant s columns_for is)
