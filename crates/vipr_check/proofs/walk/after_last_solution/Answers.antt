use Rattle.std.proofs.Common.{Result}
use Rattle.std.specs.Prelude.{IsSome}
use Rattle.vipr_spec.specs.{Checking.start, Progress.solutions_from, Verdict.Explained}
use Rattle.vipr_scan.specs.Giving.{rest_of}
use Rattle.vipr_check.specs.{Reasons.text_reason, Run.SaysWith, Shown.state_shown}
use Rattle.vipr_check.specs.{declared.no_proof.NoProof.NoProof, declared.verdict.Report.Report}
use Rattle.vipr_check.proofs.Answering.{handed_on}
use Rattle.vipr_check.proofs.RunLemmas.{at_start, knows_still, ending_unmet, ending_met}
use Rattle.vipr_check.proofs.RunLemmas.{ending_read, ending_failed, ending_shown}
use Rattle.vipr_check.proofs.walk.after_last_solution.Goals as goal

pub returns-in-Err-clause-explained : goal.returns-in-Err-clause-explained
returns-in-Err-clause-explained g c = λ P p ss is known.
    let left = rest_of c.args.solutions.rest in
    let l = c.end_solutions.new.self in
    rw c.from.ensures (ending_unmet P p ss c.args.checker.now l left c.in-Err.stop is.problem
    (c.in-Err.ensures.next ss is.runs is.has))

pub returns-in_err-derivations-in-Ok-clause-explained : goal.returns-in_err-derivations-in-Ok-clause-explained
returns-in_err-derivations-in-Ok-clause-explained g c = λ P p ss is.
    let old = c.args.solutions in
    let k = c.args.checker.now in
    let l = c.end_solutions.new.self in
    let h = c.in-Ok.ensures.next ss is.runs is.has in
    let e = c.in_err-derivations-in-Ok.field-0.0 in
    handed_on (λ (r : Result Report NoProof). IsSome old.rest
    → SaysWith (Explained P (solutions_from p ss 0 (rest_of old.rest))) (state_shown l) r)
    c.from_residual.result (text_reason e) c.from_residual.ensures.1
    (λ known. ending_failed P p ss (rest_of old.rest) (state_shown l) e
    (ending_shown P p ss k l old is h) (ending_met p ss k l is.problem h)
    (c.in_err-derivations-in-Ok.ensures.read p is.knows known))

pub check_derivations-requires : goal.check_derivations-requires
check_derivations-requires g c =
    let (P, p, ss, is) = c.requires.among in
    let new = c.in_ok-derivations-in-Ok.derivations in
    let read = c.in_ok-derivations-in-Ok.ensures in (
      P,
      start p ss,
      at_start P p ss c.args.checker.now c.end_solutions.new.self c.args.solutions is
          (c.in-Ok.ensures.next ss is.runs is.has) new
          (knows_still p c.args.solutions new is.knows read.remembers) read.working read.counted,
    )

pub returns-in_ok-derivations-in-Ok-clause-explained : goal.returns-in_ok-derivations-in-Ok-clause-explained
returns-in_ok-derivations-in-Ok-clause-explained g c = λ P p ss is known.
    let old = c.args.solutions in
    let new = c.in_ok-derivations-in-Ok.derivations in
    let read = c.in_ok-derivations-in-Ok.ensures in
    let k = c.args.checker.now in
    let l = c.end_solutions.new.self in
    let h = c.in-Ok.ensures.next ss is.runs is.has in
    let r = read.read p is.knows known in
    let at = at_start P p ss k l old is h new (knows_still p old new is.knows read.remembers)
    read.working read.counted in
    ending_read P p ss new.left (rest_of old.rest) (rest_of new.rest)
    (state_shown c.check_derivations.new.checker) c.check_derivations.result
    (ending_met p ss k l is.problem h) r.0
    (c.check_derivations.ensures.explained P (start p ss) at r.1)

pub returns-in_ok-derivations-in-Ok-clause-any : goal.returns-in_ok-derivations-in-Ok-clause-any
returns-in_ok-derivations-in-Ok-clause-any g c = λ P p ss is.
    let old = c.args.solutions in
    let new = c.in_ok-derivations-in-Ok.derivations in
    let read = c.in_ok-derivations-in-Ok.ensures in
    let h = c.in-Ok.ensures.next ss is.runs is.has in
    c.check_derivations.ensures.any P (start p ss)
    (at_start P p ss c.args.checker.now c.end_solutions.new.self old is h new
    (knows_still p old new is.knows read.remembers) read.working read.counted)
