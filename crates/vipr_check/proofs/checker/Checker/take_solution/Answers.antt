use Rattle.std.proofs.Common.{◌≡◌, true, None, refl, sym, ◌∙◌, ap, subst}
use Rattle.vipr_spec.specs.{Steps.FirstFailing, Tests.PassesSolution, Tests.solution_tests}
use Rattle.vipr_cert.specs.Items.{solution_of}
use Rattle.vipr_check.specs.Progress.{Progress, HasSolutions}
use Rattle.vipr_check.specs.{Halts.CanShowHalt, State.IsReached, State.StopsSolution}
use Rattle.vipr_check.proofs.CheckerLemmas.{runs_of, reached_still, solution_can_show, listed_frame}
use Rattle.vipr_check.proofs.CheckerLemmas.{halts_same, stops_solution, solution_halted}
use Rattle.vipr_check.proofs.CheckerLemmas.{reached_listed}
use Rattle.vipr_check.proofs.checker.Checker.take_solution.Goals as goal

pub invariant_of-self : goal.invariant_of-self
invariant_of-self g c =
    let s = solution_of c.args.solution in
    reached_listed _ c.args.self.now c.solution-tested.new.self _ s c.self.view_is
    (rw c.in_default.is at c.go_on.ensures) c.requires.phase c.self.invariant
    (λ ss has. (c.in-Ok.ensures.next ss s has refl).1)

pub invariant_of-self-in-Err-tested : goal.invariant_of-self-in-Err-tested
invariant_of-self-in-Err-tested g c =
    let s = solution_of c.args.solution in
    let k = c.self.inside.progress in
    let n = c.solutions-number.result in
    let h = c.at_solution.result in
    let halted = solution_halted n s.name c.in-Err-tested.error h c.at_solution.ensures in
    let unstopped : c.self.inside.halt ≡ None = ap (λ v. v.halt) c.self.view_is
    ∙ runs_of c.args.self.now.halt _ (rw c.in_default.is at c.go_on.ensures) in
    let phase : c.self.inside.in_solutions ≡ true = ap (λ v. v.in_solutions) c.self.view_is ∙ c.requires.phase in
    let r = c.self.invariant.solutions (λ m. absurd (cc (unstopped, m))) phase in
    let shows = subst (CanShowHalt k.problem) (sym c.stop.ensures.halt)
    (solution_can_show k.problem s.item n s.name c.in-Err-tested.error h
    (c.in-Err-tested.ensures.next r.0 s r.1 refl) halted) in
    subst (λ x. IsReached x c.self.inside.in_solutions c.stop.new.halt)
    (sym c.in-Err-tested.ensures.err)
    (reached_still k c.self.inside.in_solutions c.self.inside.halt c.stop.new.halt unstopped
    shows c.self.invariant)

pub returns-in-Ok-clause-next : goal.returns-in-Ok-clause-next
returns-in-Ok-clause-next g c = λ ss halted has.
    let s = solution_of c.args.solution in
    let same = ap (λ v. v.progress) c.self.view_is in
    let t = c.in-Ok.ensures.next ss s (subst (HasSolutions ss) (sym same) has) refl in
    let new = c.solution-tested.new.self in (
      subst (λ (x : Progress). FirstFailing (PassesSolution x.problem s.item) (solution_tests x.problem) None) same t.0,
      t.1,
      listed_frame _ c.args.self.now new new.solutions new.best c.self.view_is c.in-Ok.ensures.ok,
    )

pub returns-in-Err-tested-clause-next : goal.returns-in-Err-tested-clause-next
returns-in-Err-tested-clause-next g c = λ ss unhalted has.
    let s = solution_of c.args.solution in
    let k = c.self.inside.progress in
    let n = c.solutions-number.result in
    let same = ap (λ v. v.progress) c.self.view_is in
    let is = subst (HasSolutions ss) (sym same) has in
    let h = c.at_solution.result in
    let halted = solution_halted n s.name c.in-Err-tested.error h c.at_solution.ensures in (
      h,
      halts_same _ c.args.self.now c.solution-tested.new.self c.stop.new.halt h c.stop.result
          c.self.view_is c.in-Err-tested.ensures.err c.stop.ensures.halt c.stop.ensures.answer,
      subst (λ (x : Progress). StopsSolution x.problem ss s h) same
          (stops_solution k.problem ss s n c.in-Err-tested.error h
          (is.solutions ∙ sym c.solutions-number.ensures) halted
          (c.in-Err-tested.ensures.next ss s is refl)),
    )
