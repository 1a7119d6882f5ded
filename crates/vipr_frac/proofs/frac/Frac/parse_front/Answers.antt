use Rattle.std.proofs.Common.{ℕ, Ok, sym}
use Rattle.vipr_frac.proofs.Fronts.{front_read, onward, sign_solid}
use Rattle.vipr_frac.proofs.frac.Frac.parse_front.Goals as goal

pub returns-clause-read : goal.returns-clause-read
returns-clause-read c =
    let bs = c.args.s.now in
    let sign : ℕ = c.from-sign.result in
    sym (front_read bs c.starts_negative-is_negative.result sign _
    (Ok _) c.starts_negative-is_negative.ensures (λ h. rw h at c.from-sign.ensures)
    (λ h. rw h at c.from-sign.ensures) c.in-Some.ensures.digit.0
    (rw (onward sign bs) at c.in-Some.ensures.digit.1) (rw (onward sign bs) at c.in-Some.ensures.value))

pub returns-clause-solid : goal.returns-clause-solid
returns-clause-solid c =
    let bs = c.args.s.now in
    let sign : ℕ = c.from-sign.result in
    sign_solid bs c.starts_negative-is_negative.result sign _ c.starts_negative-is_negative.ensures
    (λ h. rw h at c.from-sign.ensures) (λ h. rw h at c.from-sign.ensures)
    (rw (onward sign bs) at c.in-Some.ensures.solid)
