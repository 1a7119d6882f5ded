use Rattle.std.proofs.Common.{sym, ap, subst, ◌∙◌, inr, refl}
use Rattle.std.proofs.lemmas.Result.{err_from_is_err_and, IfOk-weaker}
use Rattle.vipr_spec.specs.Constraint.{Dominates, IsSplit}
use Rattle.vipr_spec.specs.Certificate.{Problem, uns}
use Rattle.vipr_linear.specs.Constraint.{condition_of}
use Rattle.vipr_rules.specs.{Context.IsSetByReason, Profile.profile_of}
use Rattle.vipr_rules.proofs.BranchLemmas.{constraint_tested, joined_set, all_found, branches_ruled}
use Rattle.vipr_rules.proofs.BranchLemmas.{stops_at_first_conclusion, stops_at_first_assumption}
use Rattle.vipr_rules.proofs.BranchLemmas.{stops_at_second_conclusion, stops_at_second_assumption}
use Rattle.vipr_rules.proofs.BranchLemmas.{follows_if_all, stops_at_index}
use Rattle.vipr_rules.proofs.StepLemmas.{found_or_memory, found_if_ok}
use Rattle.vipr_rules.proofs.SoundLemmas.{branches_true}
use Rattle.vipr_rules.proofs.branches.join_branches.Goals as goal

pub returns-in_err-first_conclusion-clause-ruled : goal.returns-in_err-first_conclusion-clause-ruled
returns-in_err-first_conclusion-clause-ruled g c = λ P d e is says.
    let p = err_from_is_err_and c.from_residual.result c.from_residual.ensures.1 in
    rw (p.1, p.2)
    (inr (stops_at_index P d e c.args.first c.args.second _
    (stops_at_first_conclusion P d e c.args.first c.args.second _
    (c.in_err-first_conclusion.ensures.known P d e is))))

pub returns-in_err-first_assumption-clause-ruled : goal.returns-in_err-first_assumption-clause-ruled
returns-in_err-first_assumption-clause-ruled g c = λ P d e is says.
    let p = err_from_is_err_and c.from_residual-in_err-first_assumption.result
    c.from_residual-in_err-first_assumption.ensures.1 in
    rw (p.1, p.2)
    (inr (stops_at_index P d e c.args.first c.args.second _
    (stops_at_first_assumption P d e c.args.first c.args.second
    (c.in_ok-first_conclusion.ensures.known P d e is).0 _
    (c.in_err-first_assumption.ensures.known P d e is))))

pub returns-in_err-second_conclusion-clause-ruled :
    goal.returns-in_err-second_conclusion-clause-ruled
returns-in_err-second_conclusion-clause-ruled g c = λ P d e is says.
    let p = err_from_is_err_and c.from_residual-in_err-second_conclusion.result
    c.from_residual-in_err-second_conclusion.ensures.1 in
    rw (p.1, p.2)
    (inr (stops_at_index P d e c.args.first c.args.second _
    (stops_at_second_conclusion P d e c.args.first c.args.second
    (c.in_ok-first_conclusion.ensures.known P d e is).0
    (c.in_ok-first_assumption.ensures.known P d e is).0 _
    (c.in_err-second_conclusion.ensures.known P d e is))))

pub returns-in_err-second_assumption-clause-ruled :
    goal.returns-in_err-second_assumption-clause-ruled
returns-in_err-second_assumption-clause-ruled g c = λ P d e is says.
    let p = err_from_is_err_and c.from_residual-in_err-second_assumption.result
    c.from_residual-in_err-second_assumption.ensures.1 in
    rw (p.1, p.2)
    (inr (stops_at_index P d e c.args.first c.args.second _
    (stops_at_second_assumption P d e c.args.first c.args.second
    (c.in_ok-first_conclusion.ensures.known P d e is).0
    (c.in_ok-first_assumption.ensures.known P d e is).0
    (c.in_ok-second_conclusion.ensures.known P d e is).0 _
    (c.in_err-second_assumption.ensures.known P d e is))))

pub returns-clause-ruled : goal.returns-clause-ruled
returns-clause-ruled g c = λ P d e is says.
    let first = c.args.first in
    let second = c.args.second in
    let i1 = (c.in_ok-first_conclusion.ensures.known P d e is).1 in
    let l1 = (c.in_ok-first_assumption.ensures.known P d e is).1 in
    let i2 = (c.in_ok-second_conclusion.ensures.known P d e is).1 in
    let l2 = (c.in_ok-second_assumption.ensures.known P d e is).1 in
    let ints = ap (λ (q : Problem). q.integers) is.problem ∙ sym c.ints.ensures.integers in
    let outcome = c.check_split-split.ensures.tests P d e first.assumption second.assumption
    is.profile ints (ap condition_of c.constraint.ensures ∙ l1.says)
    (ap condition_of c.constraint-2.ensures ∙ l2.says) in
    let first_tested = constraint_tested P d e first.conclusion _ c.args.stated.now
    (ap condition_of c.constraint-3.ensures ∙ i1.says) says _ c.check_domination.ensures in
    let second_tested = constraint_tested P d e second.conclusion _ c.args.stated.now
    (ap condition_of c.constraint-4.ensures ∙ i2.says) says _ c.check_domination-2.ensures in
    let set = found_or_memory c.joined_without-joined.result c.or_memory.result
    (IsSetByReason d
    (uns first.conclusion first.assumption second.conclusion second.assumption))
    c.or_memory.ensures
    (IfOk-weaker c.joined_without-joined.result _ _
    (λ s h. joined_set d first.conclusion first.assumption second.conclusion second.assumption _
    _ _ _ _ i1 i2 refl refl h) c.joined_without-joined.ensures) in
    let found = all_found P d e first second (c.in_ok-first_conclusion.ensures.known P d e is).0
    (c.in_ok-first_assumption.ensures.known P d e is).0
    (c.in_ok-second_conclusion.ensures.known P d e is).0 (c.in_ok-second_assumption.ensures.known P d e is).0 in
    rw (c.and-4.ensures, c.and-tested.ensures, c.and-3.ensures, c.and-2.ensures, c.and.ensures)
    (branches_ruled P d e first second found _ _ _ _ _ _ (c.check_assumption.ensures.tests P d e l1)
    (c.check_assumption-2.ensures.tests P d e l2) outcome first_tested second_tested set)

pub returns-clause-sound : goal.returns-clause-sound
returns-clause-sound g c =
    let integers = c.args.context.now.problem.now.integers in
    let P = profile_of c.args.context.now.profile in
    rw (c.and-4.ensures, c.and-tested.ensures, c.and-3.ensures, c.and-2.ensures, c.and.ensures)
    (follows_if_all c.check_assumption.result c.check_assumption-2.result c.check_split-split.result
    c.check_domination.result c.check_domination-2.result c.or_memory.result _ _ _ _ _ _ _ _
    c.check_assumption.ensures.ok c.check_assumption-2.ensures.ok c.check_split-split.ensures.ok
    c.check_domination.ensures c.check_domination-2.ensures (λ a1 a2 split d1 d2.
    found_if_ok c.joined_without-joined.result c.or_memory.result _ c.or_memory.ensures
    (IfOk-weaker c.joined_without-joined.result _ _ (λ s same says x at.
    branches_true _ says x P _ _ _ _ _ _ c.args.first.assumption c.args.second.assumption _ _ _ _ _
    (c.in_ok-first_assumption.ensures.stated a1 says x at ∙ sym (ap condition_of c.constraint.ensures))
    (c.in_ok-second_assumption.ensures.stated a2 says x at ∙ sym (ap condition_of c.constraint-2.ensures))
    refl refl same
    (c.in_ok-first_conclusion.ensures.sound says x at) (c.in_ok-second_conclusion.ensures.sound says x at)
    (subst (λ i. IsSplit P i (condition_of c.constraint.result.now)
    (condition_of c.constraint-2.result.now)) c.ints.ensures.integers split)
    (subst (λ r. Dominates (condition_of r) (condition_of c.args.stated.now)) c.constraint-3.ensures d1)
    (subst (λ r. Dominates (condition_of r) (condition_of c.args.stated.now)) c.constraint-4.ensures d2)
    at.admitted.feasible.whole) c.joined_without-joined.ensures)))
