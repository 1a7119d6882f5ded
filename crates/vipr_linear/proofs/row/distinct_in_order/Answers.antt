use Rattle.vipr_linear.proofs.Rows.{rising_of_sorted}
use Rattle.vipr_linear.proofs.row.distinct_in_order.Goals as goal

pub returns-clause-rising : goal.returns-clause-rising
returns-clause-rising c = rising_of_sorted _ _ c.sort_by_variable.ensures.permutation
    c.sort_by_variable.ensures.sorted c.requires
