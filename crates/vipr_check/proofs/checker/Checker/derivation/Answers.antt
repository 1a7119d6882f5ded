use Rattle.vipr_cert.specs.Items.{derivation_of}
use Rattle.vipr_check.proofs.CheckerLemmas.{unstopped, reached_next, reached_after, takes_step}
use Rattle.vipr_check.proofs.CheckerLemmas.{halts_at_step}
use Rattle.vipr_check.proofs.checker.Checker.derivation.Goals as goal

pub invariant_of-self : goal.invariant_of-self
invariant_of-self g c =
    reached_next _ c.args.self.now c.derivation.new.self _ (derivation_of c.args.step.now)
    c.self.view_is c.in_ok-go_on.ensures c.requires.phase c.self.invariant
    (λ s has. (c.in-Ok.ensures.next s has).1)

pub invariant_of-self-in-Err : goal.invariant_of-self-in-Err
invariant_of-self-in-Err g c =
    reached_after c.self.inside.progress c.derivation.new.self c.self.inside.in_solutions
    c.self.inside.halt c.stop.new.halt c.at_lent_derivation.result c.next-index.result _
    c.in-Err.error
    (unstopped _ c.args.self.now _ c.self.view_is c.in_ok-go_on.ensures) c.self.invariant
    c.at_lent_derivation.ensures c.in-Err.ensures.err c.stop.ensures.halt

pub returns-in-Ok-clause-next : goal.returns-in-Ok-clause-next
returns-in-Ok-clause-next g c = λ s halted has.
    takes_step _ c.args.self.now c.derivation.new.self (derivation_of c.args.step.now) s
    c.self.view_is has (c.in-Ok.ensures.next s) c.in-Ok.ensures.peak c.in-Ok.ensures.ok

pub returns-in-Err-clause-next : goal.returns-in-Err-clause-next
returns-in-Err-clause-next g c = λ s halted has.
    let (halts, why) = halts_at_step _ c.args.self.now c.derivation.new.self c.stop.new.halt
    c.at_lent_derivation.result c.stop.result c.next-index.result
    (derivation_of c.args.step.now) c.in-Err.error s c.self.view_is c.at_lent_derivation.ensures
    c.in-Err.ensures.err c.stop.ensures.halt c.stop.ensures.answer c.next-index.ensures has
    (c.in-Err.ensures.next s) in
    (c.at_lent_derivation.result, halts, why)
