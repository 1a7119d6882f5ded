use Rattle.std.proofs.Common.{inl, inr, refl}
use Rattle.std.proofs.lemmas.Result.{err_from_is_err_and, IfOk-weaker, MatchResult-weaker}
use Rattle.vipr_spec.specs.Certificate.{uns}
use Rattle.vipr_rules.specs.Context.{IsSetByReason}
use Rattle.vipr_rules.proofs.BranchLemmas.{joined_set, all_found, stops_at_first_conclusion}
use Rattle.vipr_rules.proofs.BranchLemmas.{stops_at_first_assumption, stops_at_second_conclusion}
use Rattle.vipr_rules.proofs.BranchLemmas.{stops_at_second_assumption}
use Rattle.vipr_rules.proofs.StepLemmas.{found_or_memory}
use Rattle.vipr_rules.proofs.branches.assumptions_of_branches.Goals as goal

pub returns-in_err-first_conclusion : goal.returns-in_err-first_conclusion
returns-in_err-first_conclusion g c = λ P d e is.
    let p = err_from_is_err_and c.from_residual.result c.from_residual.ensures.1 in
    rw (p.1, p.2)
    (inr (stops_at_first_conclusion P d e c.args.first c.args.second _
    (c.in_err-first_conclusion.ensures.known P d e is)))

pub returns-in_err-find : goal.returns-in_err-find
returns-in_err-find g c = λ P d e is.
    let p = err_from_is_err_and c.from_residual-in_err-find.result c.from_residual-in_err-find.ensures.1 in
    rw (p.1, p.2)
    (inr (stops_at_first_assumption P d e c.args.first c.args.second
    (c.in_ok-first_conclusion.ensures.known P d e is).0 _
    (c.in_err-find.ensures.known P d e is)))

pub returns-in_err-second_conclusion : goal.returns-in_err-second_conclusion
returns-in_err-second_conclusion g c = λ P d e is.
    let p = err_from_is_err_and c.from_residual-in_err-second_conclusion.result
    c.from_residual-in_err-second_conclusion.ensures.1 in
    rw (p.1, p.2)
    (inr (stops_at_second_conclusion P d e c.args.first c.args.second
    (c.in_ok-first_conclusion.ensures.known P d e is).0 (c.in_ok-find.ensures.known P d e is).0
    _ (c.in_err-second_conclusion.ensures.known P d e is)))

pub returns-in_err-find-2 : goal.returns-in_err-find-2
returns-in_err-find-2 g c = λ P d e is.
    let p = err_from_is_err_and c.from_residual-in_err-find-2.result c.from_residual-in_err-find-2.ensures.1 in
    rw (p.1, p.2)
    (inr (stops_at_second_assumption P d e c.args.first c.args.second
    (c.in_ok-first_conclusion.ensures.known P d e is).0 (c.in_ok-find.ensures.known P d e is).0
    (c.in_ok-second_conclusion.ensures.known P d e is).0 _
    (c.in_err-find-2.ensures.known P d e is)))

pub returns : goal.returns
returns g c = λ P d e is.
    let first = c.args.first in
    let second = c.args.second in
    let i1 = c.in_ok-first_conclusion.ensures.known P d e is in
    let i2 = c.in_ok-second_conclusion.ensures.known P d e is in
    let named = all_found P d e first second i1.0 (c.in_ok-find.ensures.known P d e is).0 i2.0
    (c.in_ok-find-2.ensures.known P d e is).0 in
    let set = found_or_memory c.joined_without.result c.or_memory.result
    (IsSetByReason d
    (uns first.conclusion first.assumption second.conclusion second.assumption))
    c.or_memory.ensures
    (IfOk-weaker c.joined_without.result _ _
    (λ s h. joined_set d first.conclusion first.assumption second.conclusion second.assumption _
    _ _ _ _ i1.1 i2.1 refl refl h) c.joined_without.ensures) in
    MatchResult-weaker c.or_memory.result set (λ s all. (named, all)) (λ e memory. inl memory)
