use Rattle.std.proofs.Common.{◌≡◌, sym, subst, inl, inr}
use Rattle.std.specs.Prelude.{◌⊎◌, OnOk, MatchResult}
use Rattle.std.proofs.lemmas.Result.{MatchResult-weaker}
use Rattle.vipr_spec.specs.{Constraint.IsWholeRow, Constraint.DominatesRounded, Steps.IsSum}
use Rattle.vipr_linear.specs.{Accumulator.held_condition, Constraint.condition_of}
use Rattle.vipr_rules.specs.declared.error.RuleError.TheVariants.{Memory}
use Rattle.vipr_rules.specs.Apply.{PassesTestsIn, StopsIn, DominatesBy, computed_tests}
use Rattle.vipr_rules.proofs.StepLemmas.{laid_out_known, dominated, not_dominated}
use Rattle.vipr_rules.proofs.sum.check_finished.Goals as goal

pub returns-in-Sum-clause-tests : goal.returns-in-Sum-clause-tests
returns-in-Sum-clause-tests c = λ P d e es summed ints says.
    let r = c.check_domination-tested.result in
    let same = c.in_ok-sum.ensures.sum in
    subst (λ k. MatchResult r (λ _. PassesTestsIn P d e (computed_tests k es))
    (λ error. (error ≡ Memory) ⊎ StopsIn P d e (computed_tests k es) error)) (sym c.in-Sum.is)
    (MatchResult-weaker r (laid_out_known r _ _ _ same c.check_domination-tested.ensures)
    (λ _ h. dominated P d e es (held_condition c.args.scratch.now) c.args.stated.now summed says h)
    (λ error known. elim known [
      | inl memory ↦ inl memory
      | inr x ↦ inr
          (not_dominated P d e es (held_condition c.args.scratch.now) c.args.stated.now summed says
          x.0 x.1 error x.2)
    ]))

pub returns-in-Sum-clause-follows : goal.returns-in-Sum-clause-follows
returns-in-Sum-clause-follows c =
    let r = c.check_domination-tested.result in
    let same = c.in_ok-sum.ensures.sum in
    subst (λ k. OnOk r (DominatesBy k c.args.ints.now (held_condition c.args.scratch.now)
    (condition_of c.args.stated.now))) (sym c.in-Sum.is)
    (MatchResult-weaker r (laid_out_known r _ _ _ same c.check_domination-tested.ensures) (λ _ h. h)
    (λ error known. tt))

pub returns-in-Rounding-clause-tests : goal.returns-in-Rounding-clause-tests
returns-in-Rounding-clause-tests c = λ P d e es summed ints says.
    let same = c.in_ok-sum.ensures.sum in
    subst (λ k. MatchResult c.check_rounded.result (λ _. PassesTestsIn P d e (computed_tests k es))
    (λ error. (error ≡ Memory) ⊎ StopsIn P d e (computed_tests k es) error))
    (sym c.in-Rounding.is)
    (c.check_rounded.ensures.tests P d e es (subst (IsSum d es) (sym same) summed) ints says)

pub returns-in-Rounding-clause-follows : goal.returns-in-Rounding-clause-follows
returns-in-Rounding-clause-follows c =
    let same = c.in_ok-sum.ensures.sum in
    subst (λ k. OnOk c.check_rounded.result
    (DominatesBy k c.args.ints.now (held_condition c.args.scratch.now)
    (condition_of c.args.stated.now))) (sym c.in-Rounding.is)
    (subst (λ x. OnOk c.check_rounded.result
    (IsWholeRow c.args.ints.now x.row × DominatesRounded x (condition_of c.args.stated.now)))
    same c.check_rounded.ensures.dominates)
