use Rattle.std.proofs.Common.{not, ap, sym, ◌∙◌}
use Rattle.std.specs.{FinMap.from_sorted, Ordering.nat_cmp}
use Rattle.vipr_linear.proofs.Rows.{one_seen, one_passes, one_kept, entries_fit}
use Rattle.vipr_linear.proofs.row.Row.set_one.Goals as goal

pub invariant_of-self : goal.invariant_of-self
invariant_of-self c = one_kept (c.args.variable, c.args.coefficient)
    (ap not (sym c.if-not-is_zero.ensures.zero)) c.is_zero.ensures.bounded

pub returns-in-One-clause-row : goal.returns-in-One-clause-row
returns-in-One-clause-row c =
    ap (from_sorted {R = nat_cmp})
    (sym (one_passes (c.args.variable, c.args.coefficient)
    (ap not (sym c.if-not-is_zero.ensures.zero)))) ∙ one_seen (c.args.variable, c.args.coefficient)

pub returns-in-One-clause-fits : goal.returns-in-One-clause-fits
returns-in-One-clause-fits c =
    entries_fit _
    (one_kept (c.args.variable, c.args.coefficient) (ap not (sym c.if-not-is_zero.ensures.zero))
    c.is_zero.ensures.bounded)
