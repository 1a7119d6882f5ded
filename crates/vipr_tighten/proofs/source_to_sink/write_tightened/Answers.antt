use Rattle.std.proofs.Common.{◌≡◌, length, arith, rules}
use Rattle.vipr_spec.specs.Tightened.{tightened_certificate}
use Rattle.vipr_spec.specs.{Certificate.Certificate, Constraint.Profile}
use Rattle.vipr_write.specs.{Forms.text_in, Steps.AreStepsOf, declared.form.Form.Form}
use Rattle.vipr_tighten.specs.Keeping.{IsKeptOf}
use Rattle.vipr_tighten.proofs.Kept.{few_steps, tight_steps, tight_few, tight_fewer, tightens_whole}
use Rattle.vipr_tighten.proofs.Kept.{tightens_part}
use Rattle.vipr_tighten.proofs.source_to_sink.write_tightened.Goals.{After-write_steps}
use Rattle.vipr_tighten.proofs.{Outcomes.written_not, source_to_sink.write_tightened.Given.Over}
use Rattle.vipr_tighten.proofs.source_to_sink.write_tightened.Goals as goal

-- the steps that are written are those of the tightened certificate
steps_of : (g : Over) (c : After-write_steps g) (P : Profile) (F : Form) (x : Certificate)
    → IsKeptOf P F x c.args.proof.now
    → AreStepsOf (tightened_certificate x c.args.proof.now.report.goal) c.args.proof.now.problem
    c.as_slice-lines.result.now c.args.proof.now.statements c.deref-2.result.now
steps_of g c P F x is =
    rw (c.as_slice-lines.ensures, c.deref-2.ensures.value)
    (tight_steps P F x c.args.proof.now is c.cons-first.result.now
    c.cons-first.ensures.constraints c.tighten_derived.new.steps.items
    c.in_ok-tighten_derived.ensures)

pub tighten_derived-requires : goal.tighten_derived-requires
tighten_derived-requires g c = grind (arith, few_steps)

pub peak-requires : goal.peak-requires
peak-requires g c = grind (arith, tight_few)

pub overflow_cast-kept : goal.overflow_cast-kept
overflow_cast-kept g c = grind (arith, tight_few)

pub overflow_sub-result : goal.overflow_sub-result
overflow_sub-result g c = grind (arith, tight_fewer)

pub returns-in-Ok-clause-text : goal.returns-in-Ok-clause-text
returns-in-Ok-clause-text g c = λ P F x is.
    let k = c.args.proof.now in
    let kept = c.tighten_derived.new.steps.items in
    let all = c.in_ok-tighten_derived.ensures in
    let of = steps_of g (goal.at.returns-in-Ok-clause-text g c).After-write_steps P F x is in
    let size : c.len-kept.result ≡ length kept = search rules in
    tightens_whole P F x k is c.cons-first.result.now c.cons-first.ensures.constraints kept all
    (c.in-Ok.ensures.law _ of)
    (g.W.Sink.output c.args.sink.now) (g.W.Sink.output c.write_steps.new.sink) c.len-kept.result
    c.in_ok-peak_after.peak_after size (rw c.deref.ensures.value at c.in_ok-peak_after.ensures)
    (c.in-Ok.ensures.output _ of)

pub returns-in-Err-Memory-clause-text : goal.returns-in-Err-Memory-clause-text
returns-in-Err-Memory-clause-text g c = λ P F x is.
    let k = c.args.proof.now in
    let t = tightened_certificate x k.report.goal in
    let of = steps_of g (goal.at.returns-in-Err-Memory-clause-text g c).After-write_steps P F x is in
    let h = rw c.in-Err-Memory.field-0-is at c.in-Err-Memory.ensures in
    rw c.in-Err-Memory.field-0-is
    (written_not P F x (g.W.Sink.output c.args.sink.now)
    (g.W.Sink.output c.write_steps.new.sink) (text_in k.statements.form t) c.in-Err-Memory.taken
    (h.part t of) (h.output t of))

pub returns-in-Err-Write-clause-text : goal.returns-in-Err-Write-clause-text
returns-in-Err-Write-clause-text g c = λ P F x is.
    let k = c.args.proof.now in
    let kept = c.tighten_derived.new.steps.items in
    let all = c.in_ok-tighten_derived.ensures in
    let t = tightened_certificate x k.report.goal in
    let of = steps_of g (goal.at.returns-in-Err-Write-clause-text g c).After-write_steps P F x is in
    let h = rw c.in-Err-Write.field-0-is at c.in-Err-Write.ensures in
    rw c.in-Err-Write.field-0-is
    (tightens_part P F x k is c.cons-first.result.now c.cons-first.ensures.constraints kept all
    (h.law t of)
    (g.W.Sink.output c.args.sink.now) (g.W.Sink.output c.write_steps.new.sink) c.in-Err-Write.taken
    (h.part t of) (h.output t of))

pub returns-in-Ok-clause-failures : goal.returns-in-Ok-clause-failures
returns-in-Ok-clause-failures g c =
    let (P, F, x, is) = c.requires in
    c.in-Ok.ensures.failures _ (steps_of g (goal.at.returns-in-Ok-clause-failures g c).After-write_steps P F x is)

pub returns-in-Err-Memory-clause-failures : goal.returns-in-Err-Memory-clause-failures
returns-in-Err-Memory-clause-failures g c =
    let (P, F, x, is) = c.requires in
    let h = rw c.in-Err-Memory.field-0-is at c.in-Err-Memory.ensures in
    h.failures _ (steps_of g (goal.at.returns-in-Err-Memory-clause-failures g c).After-write_steps P F x is)

pub returns-in-Err-Write-clause-failures : goal.returns-in-Err-Write-clause-failures
returns-in-Err-Write-clause-failures g c =
    let (P, F, x, is) = c.requires in
    let h = rw c.in-Err-Write.field-0-is at c.in-Err-Write.ensures in
    h.failures _ (steps_of g (goal.at.returns-in-Err-Write-clause-failures g c).After-write_steps P F x is)
