use Rattle.vipr_linear.proofs.Rows.{distinct_of_rising, rising_of_sorted}
use Rattle.vipr_linear.proofs.row.in_order.Goals as goal

pub returns-then-rises-clause-distinct : goal.returns-then-rises-clause-distinct
returns-then-rises-clause-distinct c =
    distinct_of_rising _ (rw c.deref.ensures.value at (c.rises.ensures.0 c.if-rises.true))

pub returns-clause-rising : goal.returns-clause-rising
returns-clause-rising c = rising_of_sorted _ _ c.sort_by_variable.ensures.permutation
    c.sort_by_variable.ensures.sorted
    (rw (c.in_default.is, c.deref-2.ensures.value) at c.in_ok-v.ensures)
