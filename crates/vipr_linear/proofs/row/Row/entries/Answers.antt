use Rattle.std.proofs.Common.{ap, ◌∙◌, sym, subst}
use Rattle.std.specs.{FinMap.entries, FinMap.entries-from_sorted, Ordering.nat_cmp}
use Rattle.vipr_linear.proofs.Rows.{rises_sorted, no_zeros, entries_fit}
use Rattle.vipr_spec.specs.{Constraint.HasNoZeros, Shape.RowFits}
use Rattle.vipr_linear.specs.Row.{kept_items}
use Rattle.vipr_linear.proofs.row.Row.entries.Goals as goal

pub returns-clause-list : goal.returns-clause-list
returns-clause-list c = c.as_slice.ensures
    ∙ sym (entries-from_sorted nat_cmp _ (rises_sorted 0 _ c.self.invariant.rising))
    ∙ ap entries c.self.view_is

pub returns-clause-no_zeros : goal.returns-clause-no_zeros
returns-clause-no_zeros c =
    subst HasNoZeros c.self.view_is
    (no_zeros (kept_items c.self.inside.kept) c.self.invariant.rising)

pub returns-clause-fits : goal.returns-clause-fits
returns-clause-fits c = subst RowFits c.self.view_is (entries_fit (kept_items c.self.inside.kept) c.self.invariant)
