use Rattle.std.proofs.Common.{◌≡◌, Err, sym, subst, arith}
use Rattle.vipr_spec.specs.{Progress.solutions_from, Verdict.Explained}
use Rattle.vipr_scan.specs.Giving.{rest_of}
use Rattle.vipr_check.specs.{Run.SaysWith, Shown.state_shown}
use Rattle.vipr_check.proofs.RunLemmas.{listed_later, listed_says}
use Rattle.vipr_check.proofs.walk.check_solutions.Goals as goal

pub next_solution-requires-clause-among : goal.next_solution-requires-clause-among
next_solution-requires-clause-among g c =
    let (P, p, ss, is) = c.requires in
    let h = c.solutions.invariant P p ss is in
    (P, p, h.now, h.is_among)

pub solutions-preserved : goal.solutions-preserved
solutions-preserved g c = λ P p ss is.
    let h = c.solutions.invariant P p ss is in
    let new = c.next_solution.new in
    listed_later P p ss c.solutions.checker new.checker c.args.solutions c.solutions.solutions
    new.solutions h (rw c.in_default.is at (c.next_solution.ensures.step P p h.now h.is_among))

pub returns-in-Err-clause-explained : goal.returns-in-Err-clause-explained
returns-in-Err-clause-explained g c = λ P p ss is known.
    let h = c.solutions.invariant P p ss is in
    let shown = state_shown c.next_solution.new.checker in
    listed_says P p ss c.solutions.checker c.args.solutions c.solutions.solutions h known shown
    (Err c.in-Err.error) (c.in-Err.ensures.step P p h.now h.is_among)

pub after_last_solution-requires-clause-among : goal.after_last_solution-requires-clause-among
after_last_solution-requires-clause-among g c =
    let (P, p, ss, is) = c.requires in
    let h = c.solutions.invariant P p ss is in
    (P, p, h.now, h.is_among)

pub returns-clause-explained : goal.returns-clause-explained
returns-clause-explained g c = λ P p ss is known.
    let h = c.solutions.invariant P p ss is in
    let mid = c.solutions.solutions in
    let x = c.after_last_solution.result in
    let shown = state_shown c.after_last_solution.new.checker in
    let zero : mid.left ≡ 0 = omega arith in
    listed_says P p ss c.solutions.checker c.args.solutions mid h known shown x
    (λ t. subst (λ n. SaysWith (Explained P (solutions_from p h.now n (rest_of mid.rest))) shown x)
    (sym zero) (c.after_last_solution.ensures.explained P p h.now h.is_among t))

pub returns-clause-any : goal.returns-clause-any
returns-clause-any g c = λ P p ss is.
    let h = c.solutions.invariant P p ss is in
    c.after_last_solution.ensures.any P p h.now h.is_among
