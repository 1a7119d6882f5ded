use Rattle.std.proofs.Common.{◌≡◌, Err, sym, subst}
use Rattle.std.proofs.lemmas.Result.{err_from_is_err_and}
use Rattle.vipr_spec.specs.Reading.{Rest, end_read}
use Rattle.vipr_scan.specs.View.{rest_of_window, view_of_found, next_answer, view_of_answer}
use Rattle.vipr_scan.specs.{Faults.IsFaultOf, declared.error.ScanError.ScanError}
use Rattle.vipr_scan.proofs.Ending.{ended, trailing, failed}
use Rattle.vipr_scan.proofs.{State.some_weaker, Wanted.behind_of}
use Rattle.vipr_scan.proofs.window.Window.end.Goals as goal

pub returns-in_err-advance-clause-read : goal.returns-in_err-advance-clause-read
returns-in_err-advance-clause-read g c =
    let p = err_from_is_err_and c.from_residual.result c.from_residual.ensures.1 in
    rw (p.1, p.2) (some_weaker (rest_of_window g.R.Source.input c.args.self.now) _ _
    (λ (l : Rest) h. subst (λ (e : ScanError). IsFaultOf e (end_read l))
    (sym c.in_err-advance.ensures.error)
    (failed l (subst (λ (e : ScanError). Err e ≡ next_answer l) c.in_err-advance.ensures.error h)))
    c.in_err-advance.ensures.answer)

pub returns-in-None-clause-read : goal.returns-in-None-clause-read
returns-in-None-clause-read g c = some_weaker (rest_of_window g.R.Source.input c.args.self.now) _ _
    (λ (l : Rest) h. ended l h) (rw c.in-None.is at c.in_ok-advance.ensures.answer)

pub returns-in-Some-clause-read : goal.returns-in-Some-clause-read
returns-in-Some-clause-read g c =
    rw c.new.ensures (some_weaker (rest_of_window g.R.Source.input c.args.self.now) _ _
    (λ (l : Rest) h. trailing l (view_of_found c.advance.new.self.buf.value c.in-Some.found) h)
    (rw c.in-Some.is at c.in_ok-advance.ensures.answer))

pub returns-in_err-advance-clause-behind : goal.returns-in_err-advance-clause-behind
returns-in_err-advance-clause-behind g c =
    behind_of (rest_of_window g.R.Source.input c.args.self.now)
    (rest_of_window g.R.Source.input c.advance.new.self)
    (view_of_answer (view_of_found c.advance.new.self.buf.value) c.advance.result)
    c.advance.ensures.answer c.advance.ensures.left

pub returns-in-None-clause-behind : goal.returns-in-None-clause-behind
returns-in-None-clause-behind g c =
    behind_of (rest_of_window g.R.Source.input c.args.self.now)
    (rest_of_window g.R.Source.input c.advance.new.self)
    (view_of_answer (view_of_found c.advance.new.self.buf.value) c.advance.result)
    c.advance.ensures.answer c.advance.ensures.left

pub returns-in-Some-clause-behind : goal.returns-in-Some-clause-behind
returns-in-Some-clause-behind g c =
    behind_of (rest_of_window g.R.Source.input c.args.self.now)
    (rest_of_window g.R.Source.input c.advance.new.self)
    (view_of_answer (view_of_found c.advance.new.self.buf.value) c.advance.result)
    c.advance.ensures.answer c.advance.ensures.left
