use Rattle.std.proofs.Common.{arith, ◌≡◌, false, not, [], ap, sym, ◌∙◌}
use Rattle.std.specs.{FinMap.from_sorted, Ordering.nat_cmp}
use Rattle.vipr_spec.specs.Reading.{is_nonzero}
use Rattle.vipr_linear.proofs.Rows.{one_seen, one_passes, one_fails, one_kept, entries_fit}
use Rattle.vipr_linear.proofs.row.Row.of_one.Goals as goal

pub returns-then-is_zero-clause-row : goal.returns-then-is_zero-clause-row
returns-then-is_zero-clause-row c =
    let zero : is_nonzero (c.args.variable, c.args.coefficient) ≡ false =
    ap not (sym c.is_zero.ensures.zero ∙ c.if-is_zero.true) in
    rw c.new.ensures.items
    (ap (from_sorted {R = nat_cmp}) (sym (one_fails (c.args.variable, c.args.coefficient) zero))
    ∙ one_seen (c.args.variable, c.args.coefficient))

pub returns-then-is_zero-clause-fits : goal.returns-then-is_zero-clause-fits
returns-then-is_zero-clause-fits c =
    rw c.new.ensures.items
    (entries_fit [] (record { rising = tt; bounded = λ k d l. absurd (omega arith) }))

pub invariant_of-result-2 : goal.invariant_of-result-2
invariant_of-result-2 c = one_kept (c.args.variable, c.args.coefficient)
    (ap not (sym c.is_zero.ensures.zero ∙ c.if-is_zero.false)) c.is_zero.ensures.bounded

pub returns-clause-row : goal.returns-clause-row
returns-clause-row c =
    ap (from_sorted {R = nat_cmp})
    (sym (one_passes (c.args.variable, c.args.coefficient)
    (ap not (sym c.is_zero.ensures.zero ∙ c.if-is_zero.false))))
    ∙ one_seen (c.args.variable, c.args.coefficient)

pub returns-clause-fits : goal.returns-clause-fits
returns-clause-fits c =
    entries_fit _
    (one_kept (c.args.variable, c.args.coefficient)
    (ap not (sym c.is_zero.ensures.zero ∙ c.if-is_zero.false)) c.is_zero.ensures.bounded)
