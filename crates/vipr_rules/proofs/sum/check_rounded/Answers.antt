use Rattle.std.proofs.Common.{[], ◌∷◌, Some, refl, ap, ◌∙◌}
use Rattle.std.proofs.lemmas.Result.{IfOk-weaker, MatchResult-weaker}
use Rattle.vipr_spec.specs.Causes as cause
use Rattle.vipr_spec.specs.Steps.{roundable, by_rounding, sum as shown_sum}
use Rattle.vipr_linear.specs.Constraint.{condition_of}
use Rattle.vipr_rules.specs.Apply.{StopsIn}
use Rattle.vipr_rules.proofs.StepLemmas.{error_or_memory}
use Rattle.vipr_rules.proofs.RoundLemmas.{not_roundable, rounded_dominates, rounded_refused}
use Rattle.vipr_rules.proofs.sum.check_rounded.Goals as goal

pub returns-in-Ok-Row-clause-tests : goal.returns-in-Ok-Row-clause-tests
returns-in-Ok-Row-clause-tests c = λ P d e es sum ints says.
    let whole_row = c.in-Ok-Row.ensures.ok.0 refl in
    let rounding = rw c.in-Ok-Row.field-0-is at c.in-Ok-Row.ensures.rounding in
    let dominates = rw c.in-Ok-Row.field-0-is at (c.in-Ok-Row.ensures.dominates (condition_of c.args.stated.now)) in
    MatchResult-weaker c.check_domination-tested.result c.check_domination-tested.ensures
    (λ _ h. rounded_dominates P d e es c.args.sum sum c.args.ints.now ints whole_row
    c.args.stated.now says (dominates.0 h))
    (λ error known. rounded_refused P d e es c.args.sum sum c.args.ints.now ints whole_row
    c.args.stated.now says c.in-Ok-Row.computed rounding dominates error known)

pub returns-in-Ok-Absurd-clause-tests : goal.returns-in-Ok-Absurd-clause-tests
returns-in-Ok-Absurd-clause-tests c = λ P d e es sum ints says.
    let dominates =
    rw c.in-Ok-Absurd.field-0-is at
    (c.in-Ok-Absurd.ensures.dominates (condition_of c.args.stated.now)) in
    rounded_dominates P d e es c.args.sum sum c.args.ints.now ints
    (c.in-Ok-Absurd.ensures.ok.0 refl) c.args.stated.now says (dominates.0 tt)

pub returns-in-Err-clause-tests : goal.returns-in-Err-clause-tests
returns-in-Err-clause-tests c = λ P d e es sum ints says.
    error_or_memory c.not_roundable.result c.unwrap_or.result
    (StopsIn P d e (roundable es ∷ by_rounding es ∷ [])) c.unwrap_or.ensures
    (IfOk-weaker c.not_roundable.result _ _
    (λ error shown. not_roundable P d e es c.args.sum sum c.args.ints.now ints
    (λ w. let ok = c.in-Err.ensures.ok.1 w in absurd (cc)) error
    (shown ∙ ap (λ x. Some (cause.not_roundable, shown_sum (condition_of x)))
    c.in-Err.ensures.back)) c.not_roundable.ensures)
