use Rattle.std.proofs.Common.{◌≡◌, Some, None, option_copied, sym, ap, subst, ◌∙◌, inr}
use Rattle.std.specs.Prelude.{IfSome}
use Rattle.vipr_spec.specs.Certificate.{Problem, variables, objective_at, objective_constraint}
use Rattle.vipr_spec.specs.Certificate.{reaches, IsAsGood}
use Rattle.vipr_spec.specs.{Constraint.IsTrueAt, Soundness.IsBestValue}
use Rattle.vipr_spec.proofs.Laws.{dominates_true}
use Rattle.vipr_rules.proofs.CutoffLemmas.{none_listed, cut_ruled, reached}
use Rattle.vipr_rules.proofs.StepLemmas.{no_set, follows_if_ok}
use Rattle.vipr_rules.proofs.cutoff.cut_off.Goals as goal

pub returns-clause-ruled : goal.returns-clause-ruled
returns-clause-ruled g c = λ P d e is says.
    let p = c.args.context.now.problem.now in
    let value = c.in-Some.value.now in
    let best = subst (λ p. IsBestValue p d.solutions (Some value)) (sym is.problem)
    (subst (IsBestValue p d.solutions) (ap option_copied c.in-Some.is) is.best) in
    let same = c.in_ok-computed.ensures
    ∙ ap (λ (p : Problem). objective_constraint p (reaches p.direction) value)
    (sym is.problem) in
    rw c.and.ensures
    (cut_ruled P d e value best c.in_ok-computed.computed c.args.stated.now same says
    c.check_domination-tested.result c.empty.result c.check_domination-tested.ensures
    (no_set d _ c.empty.ensures))

pub returns-clause-sound : goal.returns-clause-sound
returns-clause-sound g c =
    let p = c.args.context.now.problem.now in
    let value = c.in-Some.value.now in
    rw c.and.ensures
    (follows_if_ok c.check_domination-tested.result _ _ _ _ c.check_domination-tested.ensures
    (λ dominates says x at h.
    let unbeaten = subst (λ b. IfSome b (IsAsGood p.direction (objective_at p x)))
    (ap option_copied c.in-Some.is) at.admitted.unbeaten in
    dominates_true (variables p) x _ _ dominates
    (subst (λ d. IsTrueAt (variables p) d x) (sym c.in_ok-computed.ensures)
    (reached p.direction (objective_at p x) value unbeaten))))

pub returns-in_default-clause-ruled : goal.returns-in_default-clause-ruled
returns-in_default-clause-ruled g c = λ P d e is says.
    let none : c.args.context.now.best ≡ None = c.in_default.is in
    inr (none_listed P d e
    (subst (λ p. IsBestValue p d.solutions None) (sym is.problem)
    (subst (IsBestValue c.args.context.now.problem.now d.solutions) (ap option_copied none)
    is.best)))
