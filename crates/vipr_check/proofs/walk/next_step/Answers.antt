use Rattle.std.proofs.Common.{sym, subst}
use Rattle.vipr_spec.specs.{Progress.derivations_from, Verdict.Explained, Verdict.verified}
use Rattle.vipr_cert.specs.Items.{derivation_of}
use Rattle.vipr_scan.specs.Giving.{rest_of}
use Rattle.vipr_check.specs.Reasons.{text_reason, stop_reason, SaysWhy}
use Rattle.vipr_check.specs.{Run.Goes, Shown.state_shown, View.report_of}
use Rattle.vipr_check.proofs.RunLemmas.{step_reached, step_stops, finish_stops}
use Rattle.vipr_check.proofs.RunLemmas.{finish_verifies, derivation_missing}
use Rattle.vipr_check.proofs.{Answering.handed_on, ShownLemmas.unshown, Verifying.report_of_proof}
use Rattle.vipr_check.proofs.walk.next_step.Goals as goal

pub returns-in_err-found-clause-step : goal.returns-in_err-found-clause-step
returns-in_err-found-clause-step g c = λ P s is.
    let old = c.args.derivations.now in
    let k = c.args.checker.now in
    let e = c.in_err-found.field-0.0 in
    handed_on (Goes P s old k c.next_into.new.self) c.from_residual.result (text_reason e) c.from_residual.ensures.1
    (λ known. derivation_missing P s old.left (rest_of old.rest) (state_shown k) e
    (unshown k is.runs) (c.in_err-found.ensures.read s.problem is.knows known))

pub returns-in_err-take_from-clause-step : goal.returns-in_err-take_from-clause-step
returns-in_err-take_from-clause-step g c = λ P s is.
    let h = rw c.if-found.true at c.in_ok-found.ensures in
    let old = c.args.derivations.now in
    let k = c.args.checker.now in
    let l = c.take_from.new.self in
    let new = c.next_into.new.self in
    let e = c.in_err-take_from.field-0.0 in
    handed_on (Goes P s old l new) c.from_residual-in_err-take_from.result
    (stop_reason e) c.from_residual-in_err-take_from.ensures.1
    (step_stops P s k l old new (derivation_of c.next_into.new.step) is h.moves.counted
    (λ known. (let r = h.read s.problem is.knows known in (r.1, r.2))) h.shape.reason e
    (c.in_err-take_from.ensures.next s is.runs is.has))

pub returns-then-found-clause-step : goal.returns-then-found-clause-step
returns-then-found-clause-step g c = λ P s is.
    let h = rw c.if-found.true at c.in_ok-found.ensures in
    step_reached P s c.args.checker.now c.take_from.new.self c.args.derivations.now
    c.next_into.new.self (derivation_of c.next_into.new.step) is h.moves.counted
    (λ known. (let r = h.read s.problem is.knows known in (r.1, r.2)))
    h.moves.remembers h.moves.working (c.in_ok-take_from.ensures.next s is.runs is.has)

pub returns-in_err-finish-clause-step : goal.returns-in_err-finish-clause-step
returns-in_err-finish-clause-step g c = λ P s is.
    let h = rw c.if-found.false at c.in_ok-found.ensures in
    let old = c.args.derivations.now in
    let k = c.args.checker.now in
    let l = c.finish.new.self in
    let e = c.in_err-finish.field-0.0 in
    handed_on (Goes P s old l c.next_into.new.self) c.from_residual-in_err-finish.result
    (stop_reason e) c.from_residual-in_err-finish.ensures.1 (λ known.
    let r = h.read s.problem is.knows known in
    subst (λ n. SaysWhy (Explained P (derivations_from s n (rest_of old.rest))) (state_shown l)
    (stop_reason e)) (sym r.0)
    (finish_stops P s k l (rest_of old.rest) is.profile r.1 e is.has.problem
    (c.in_err-finish.ensures.next s is.runs is.has)))

pub returns-clause-step : goal.returns-clause-step
returns-clause-step g c = λ P s is known.
    let h = rw c.if-found.false at c.in_ok-found.ensures in
    let left = rest_of c.args.derivations.now.rest in
    let l = c.finish.new.self in
    let report = c.in_ok-finish.field-0 in
    let r = h.read s.problem is.knows known in
    subst (λ n. Explained P (derivations_from s n left) (verified (report_of report)) (state_shown l)) (sym r.0)
    (finish_verifies P s c.args.checker.now l left is.profile r.1 report is.runs
    (c.in_ok-finish.ensures.next s is.runs is.has))

pub returns-clause-any : goal.returns-clause-any
returns-clause-any g c = λ P s is.
    report_of_proof P s c.args.checker.now c.finish.new.self c.in_ok-finish.field-0 is.profile
    (c.in_ok-finish.ensures.next s is.runs is.has)
