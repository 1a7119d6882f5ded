use Rattle.std.proofs.Common.{sym, ap, subst, ◌∙◌, inl, inr}
use Rattle.std.proofs.lemmas.Result.{IfOk-weaker}
use Rattle.vipr_spec.specs.Certificate.{Problem, variables}
use Rattle.vipr_linear.specs.{Accumulator.held_condition, Constraint.condition_of}
use Rattle.vipr_rules.specs.Context.{IsSetOfAll, IsSetByReason}
use Rattle.vipr_rules.specs.{Apply.DominatesBy, Apply.reason_by, Soundness.IsSoundUnder}
use Rattle.vipr_rules.proofs.SoundLemmas.{AreTrue}
use Rattle.vipr_rules.proofs.StepLemmas.{found_or_memory, found_if_ok, follows_if_ok}
use Rattle.vipr_rules.proofs.ComputedLemmas.{adding_stops, computed_ruled, none_free}
use Rattle.vipr_rules.proofs.ComputedLemmas.{set_computed, follows_true}
use Rattle.vipr_rules.proofs.sum.combine.Goals as goal

pub returns-in-Ok-clause-ruled : goal.returns-in-Ok-clause-ruled
returns-in-Ok-clause-ruled g c = λ P d e is says.
    let es = c.args.entries.now in
    let k = c.args.computed in
    let sum = c.in-Ok.ensures.sum P d e is in
    let ints = ap (λ (q : Problem). q.integers) is.problem ∙ sym c.ints-ints.ensures.integers in
    let set = found_or_memory c.finish.result c.or_memory.result (IsSetByReason d (reason_by k es)) c.or_memory.ensures
    (IfOk-weaker c.finish.result _ _
    (λ s h. set_computed d es s k (subst (IsSetOfAll d es) (sym h) sum.2)) c.finish.ensures) in
    rw c.and.ensures
    (computed_ruled P d e es k sum.0 _ _
    (c.check_computed-tested.ensures.tests P d e es sum.1 ints says) set)

pub returns-in-Err-clause-ruled : goal.returns-in-Err-clause-ruled
returns-in-Err-clause-ruled g c = λ P d e is says.
    elim (c.in-Err.ensures.sum P d e is) [
      | inl memory ↦ inl (memory, none_free P d e c.args.entries.now c.args.computed)
      | inr stops ↦ inr (adding_stops P d e c.args.entries.now c.args.computed _ stops)
    ]

pub returns-in-Ok-clause-sound : goal.returns-in-Ok-clause-sound
returns-in-Ok-clause-sound g c =
    let n = variables c.args.context.now.problem.now in
    let held = held_condition c.add_up.new.scratch in
    let stated = condition_of c.args.stated.now in
    rw c.and.ensures
    (follows_if_ok c.check_computed-tested.result c.or_memory.result _ _ _
    c.check_computed-tested.ensures.follows (λ follows.
    found_if_ok c.finish.result c.or_memory.result
    (λ s. IsSoundUnder g.S.Rows.table c.args.context.now s stated) c.or_memory.ensures
    (IfOk-weaker c.finish.result _ _ (λ s same says x here h.
    follows_true n x c.args.context.now.problem.now.integers c.args.computed held stated here.admitted.feasible.whole
    (subst (λ i. DominatesBy c.args.computed i held stated) c.ints-ints.ensures.integers follows)
    (c.in-Ok.ensures.sound says x here (subst (λ s. AreTrue n says s x) same h))) c.finish.ensures)))
