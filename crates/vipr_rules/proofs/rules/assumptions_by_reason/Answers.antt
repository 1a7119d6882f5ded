use Rattle.std.proofs.Common.{sym, ap, ap₂, subst, ◌∙◌, refl, inl, inr, Ok}
use Rattle.std.specs.FinSet.{empty, insert}
use Rattle.vipr_spec.specs.Certificate.{asm, lin, rnd, uns, sol, count}
use Rattle.vipr_cert.specs.Items.{reason_of}
use Rattle.vipr_rules.specs.{Context.IsSetByReason, declared.branches.Branch.Branch}
use Rattle.vipr_rules.proofs.StepLemmas.{own_set, no_set, finds_in}
use Rattle.vipr_rules.proofs.rules.assumptions_by_reason.Goals as goal

pub returns-in_ok-single-in-Asm-clause-found : goal.returns-in_ok-single-in-Asm-clause-found
returns-in_ok-single-in-Asm-clause-found g c = λ P d e is same.
    finds_in P d e asm (Ok c.in_ok-single-in-Asm.field-0) (same ∙ ap reason_of c.in-Asm.is) (
      refl,
      subst (IsSetByReason d asm)
          (sym (c.in_ok-single-in-Asm.ensures.set
          ∙ ap (insert empty) (c.next.ensures ∙ is.rows.next))) (own_set (count d)),
    )

pub returns-in-Lin-clause-found : goal.returns-in-Lin-clause-found
returns-in-Lin-clause-found g c = λ P d e is same.
    let es = sym c.deref.ensures.value in
    let found = c.assumptions_of_sum.ensures P d e is in
    elim c.in-Lin.is [
      | inl by ↦ finds_in P d e _ _ (same ∙ ap reason_of by ∙ ap lin es) found
      | inr by ↦ finds_in P d e _ _ (same ∙ ap reason_of by ∙ ap rnd es) found
    ]

pub returns-in-Uns-clause-found : goal.returns-in-Uns-clause-found
returns-in-Uns-clause-found g c = λ P d e is same.
    finds_in P d e _ _ (same ∙ ap reason_of c.in-Uns.is
    ∙ ap₂ (λ (a b : Branch). uns a.conclusion a.assumption b.conclusion b.assumption)
    (sym c.of-first.ensures) (sym c.of-second.ensures))
    (c.assumptions_of_branches.ensures P d e is)

pub returns-in-Sol-clause-found : goal.returns-in-Sol-clause-found
returns-in-Sol-clause-found g c = λ P d e is same.
    finds_in P d e sol (Ok c.empty.result) (same ∙ ap reason_of c.in-Sol.is)
    (refl, no_set d c.empty.result c.empty.ensures)
