use Rattle.std.proofs.Common.{ap, ◌∙◌}
use Rattle.std.specs.FinMap.{from_sorted}
use Rattle.vipr_linear.proofs.Rows.{same_known, row_again}
use Rattle.vipr_linear.proofs.row.Row.is_same.Goals as goal

pub returns-else-is_one : goal.returns-else-is_one
returns-else-is_one c =
    let one = ap from_sorted c.entries.ensures.list ∙ row_again c.args.self.now in
    let two = ap from_sorted c.entries-else-is_one.ensures.list ∙ row_again c.args.other.now in
    rw (← one, ← two)
    (same_known _ _ c.eq.result c.entries.ensures.rising c.entries-else-is_one.ensures.rising
    c.eq.ensures)
