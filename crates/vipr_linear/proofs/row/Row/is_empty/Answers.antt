use Rattle.std.proofs.Common.{ap, ◌∙◌}
use Rattle.std.specs.FinMap.{from_sorted}
use Rattle.vipr_linear.proofs.Rows.{empty_known, row_again}
use Rattle.vipr_linear.proofs.row.Row.is_empty.Goals as goal

pub returns : goal.returns
returns c =
    let same = ap from_sorted c.entries.ensures.list ∙ row_again c.args.self.now in
    rw (← same) (empty_known _ c.is_empty.result c.entries.ensures.rising c.is_empty.ensures)
