use Rattle.std.proofs.Common.{arith}
use Rattle.vipr_check.specs.Reasons.{text_reason, stop_reason}
use Rattle.vipr_check.specs.{Run.GoesAmong, Shown.state_shown}
use Rattle.vipr_cert.specs.Items.{solution_of}
use Rattle.vipr_scan.specs.Giving.{rest_of}
use Rattle.vipr_check.proofs.RunLemmas.{solution_missing, solution_listed, solution_stops}
use Rattle.vipr_check.proofs.{Answering.handed_on, ShownLemmas.unshown}
use Rattle.vipr_check.proofs.walk.next_solution.Goals as goal

pub returns-in_err-solution-clause-step : goal.returns-in_err-solution-clause-step
returns-in_err-solution-clause-step g c = λ P p ss is.
    let old = c.args.solutions.now in
    let k = c.args.checker.now in
    let e = c.in_err-solution.field-0.0 in
    handed_on (GoesAmong P p ss old k c.next.new.self) c.from_residual.result (text_reason e) c.from_residual.ensures.1
    (λ known. solution_missing P p ss old.left (rest_of old.rest) (state_shown k) e
    (unshown k is.runs) (c.in_err-solution.ensures.read p is.knows known))

pub returns-in_err-take_solution-in-Some-clause-step :
    goal.returns-in_err-take_solution-in-Some-clause-step
returns-in_err-take_solution-in-Some-clause-step g c = λ P p ss is.
    let h = rw c.in-Some.is at c.in_ok-solution.ensures in
    let old = c.args.solutions.now in
    let k = c.args.checker.now in
    let l = c.take_solution.new.self in
    let new = c.next.new.self in
    let e = c.in_err-take_solution-in-Some.field-0.0 in
    handed_on (GoesAmong P p ss old l new) c.from_residual-in_err-take_solution-in-Some.result
    (stop_reason e) c.from_residual-in_err-take_solution-in-Some.ensures.1
    (solution_stops P p ss k l old new (solution_of c.in-Some.solution) is h.moves.counted
    (λ known. (let r = h.read p is.knows known in (r.1, r.2))) e
    (c.in_err-take_solution-in-Some.ensures.next ss is.runs is.has))

pub returns-clause-step : goal.returns-clause-step
returns-clause-step g c = grind (arith, solution_listed)
