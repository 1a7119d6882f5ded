use Rattle.std.proofs.Common.{Result, Ok, Err, OnOk, map}
use Rattle.vipr_tighten.proofs.Renumbering.{earlier_of, tightened_is}
use Rattle.vipr_tighten.proofs.certificate.tighten_derived.Goals as goal

on_ok : {A E P Q : Type 0} (r : Result A E) → (P → Q) → OnOk r P → OnOk r Q
on_ok (Ok x) f h = f h
on_ok (Err e) f h = tt

pub returns : goal.returns
returns g c =
    let first = c.args.first in
    let steps = c.args.steps.now.items in
    let marks = c.in_ok-marks.marks.items in
    on_ok c.renumber.result
    (λ h view x are can.
    let ds = map (g.D.Tightenable.derived view) steps in
    tightened_is x first ds are c.args.goal can marks
    (rw c.deref.ensures.value at (c.in_ok-marks.ensures.marks view))
    (map (g.D.Tightenable.derived view) c.renumber.new.steps.items)
    (rw c.deref-2.ensures.value at (h view (earlier_of x first ds can.back are))))
    c.renumber.ensures
