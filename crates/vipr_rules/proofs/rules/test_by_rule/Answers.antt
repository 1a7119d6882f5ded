use Rattle.std.proofs.Common.{sym, ap, ap₂, subst, ◌∙◌, refl}
use Rattle.std.proofs.lemmas.Result.{IfOk-weaker}
use Rattle.std.specs.{FinSet.empty, FinSet.insert, FinSet.contains, Prelude.IsTrue}
use Rattle.vipr_spec.specs.Constraint.{IsTrueAt}
use Rattle.vipr_spec.specs.Certificate.{variables, asm, lin, rnd, uns, count}
use Rattle.vipr_cert.specs.Items.{reason_of, derivation_of}
use Rattle.vipr_rules.specs.{Apply.IsRuledBy, Context.IsSetByReason, declared.branches.Branch.Branch}
use Rattle.vipr_rules.proofs.StepLemmas.{own_set, found_or_memory, found_if_ok, assumption_ruled}
use Rattle.vipr_rules.proofs.rules.test_by_rule.Goals as goal

pub returns-in-Asm-clause-ruled : goal.returns-in-Asm-clause-ruled
returns-in-Asm-clause-ruled g c = λ P d is.
    let step = derivation_of c.args.step.now in
    let found = found_or_memory c.single.result c.or_memory.result (IsSetByReason d asm) c.or_memory.ensures
    (IfOk-weaker c.single.result _ _
    (λ s same. subst (IsSetByReason d asm)
    (sym (same ∙ ap (insert empty) (c.next.ensures ∙ is.rows.next))) (own_set (count d)))
    c.single.ensures.set) in
    subst (λ r. IsRuledBy P d step r c.or_memory.result) (sym (ap reason_of c.in-Asm.is))
    (assumption_ruled P d step c.or_memory.result found)

pub returns-in-Asm-clause-sound : goal.returns-in-Asm-clause-sound
returns-in-Asm-clause-sound g c =
    found_if_ok c.single.result c.or_memory.result _ c.or_memory.ensures
    (IfOk-weaker c.single.result _ _ (λ s same says x at next h.
    subst (λ d. IsTrueAt (variables c.args.context.now.problem.now) d x) (ap says c.next.ensures ∙ next)
    (h c.next.result
    (subst (λ s. IsTrue (contains s c.next.result)) (sym same)
    ((own_set c.next.result c.next.result).1 refl)))) c.single.ensures.set)

pub returns-in-Lin-clause-ruled : goal.returns-in-Lin-clause-ruled
returns-in-Lin-clause-ruled g c = λ P d is.
    let by = ap reason_of c.in-Lin.is ∙ ap lin (sym c.deref.ensures.value) in
    subst (λ r. IsRuledBy P d (derivation_of c.args.step.now) r c.combine.result) (sym by)
    (c.combine.ensures.ruled P d (derivation_of c.args.step.now) is refl)

pub returns-in-Rnd-clause-ruled : goal.returns-in-Rnd-clause-ruled
returns-in-Rnd-clause-ruled g c = λ P d is.
    let by = ap reason_of c.in-Rnd.is ∙ ap rnd (sym c.deref-in-Rnd.ensures.value) in
    subst (λ r. IsRuledBy P d (derivation_of c.args.step.now) r c.combine-in-Rnd.result) (sym by)
    (c.combine-in-Rnd.ensures.ruled P d (derivation_of c.args.step.now) is refl)

pub returns-in-Uns-clause-ruled : goal.returns-in-Uns-clause-ruled
returns-in-Uns-clause-ruled g c = λ P d is.
    let by = ap reason_of c.in-Uns.is
    ∙ ap₂ (λ (a b : Branch). uns a.conclusion a.assumption b.conclusion b.assumption)
    (sym c.of-first.ensures) (sym c.of-second.ensures) in
    subst (λ r. IsRuledBy P d (derivation_of c.args.step.now) r c.join_branches.result) (sym by)
    (c.join_branches.ensures.ruled P d (derivation_of c.args.step.now) is refl)

pub returns-in-Sol-clause-ruled : goal.returns-in-Sol-clause-ruled
returns-in-Sol-clause-ruled g c = λ P d is.
    subst (λ r. IsRuledBy P d (derivation_of c.args.step.now) r c.cut_off.result)
    (sym (ap reason_of c.in-Sol.is))
    (c.cut_off.ensures.ruled P d (derivation_of c.args.step.now) is refl)
