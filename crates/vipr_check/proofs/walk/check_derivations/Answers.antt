use Rattle.vipr_check.proofs.RunLemmas.{step_goes_on, step_ends, step_ends_proved}
use Rattle.vipr_check.proofs.walk.check_derivations.Goals as goal

pub next_step-answer-requires : goal.next_step-answer-requires
next_step-answer-requires g c = let (P, s, is) = c.requires in let h = c.steps.invariant P s is in (P, h.now, h.is_at)

pub steps-preserved : goal.steps-preserved
steps-preserved g c = λ P s is.
    let h = c.steps.invariant P s is in
    let new = c.next_step-answer.new in
    step_goes_on P s c.steps.checker new.checker c.args.derivations c.steps.derivations
    new.derivations h c.next_step-answer.result (rw c.in_default.is at c.transpose.ensures)
    (c.next_step-answer.ensures.step P h.now h.is_at)

pub returns-in-Some-clause-explained : goal.returns-in-Some-clause-explained
returns-in-Some-clause-explained g c = λ P s is known.
    let h = c.steps.invariant P s is in
    let new = c.next_step-answer.new in
    step_ends P s c.steps.checker new.checker c.args.derivations c.steps.derivations new.derivations
    h c.next_step-answer.result c.in-Some.outcome (rw c.in-Some.is at c.transpose.ensures)
    (c.next_step-answer.ensures.step P h.now h.is_at) known

pub returns-in-Some-clause-any : goal.returns-in-Some-clause-any
returns-in-Some-clause-any g c = λ P s is.
    let h = c.steps.invariant P s is in
    step_ends_proved _ c.next_step-answer.result c.in-Some.outcome
    (rw c.in-Some.is at c.transpose.ensures) (c.next_step-answer.ensures.any P h.now h.is_at)
