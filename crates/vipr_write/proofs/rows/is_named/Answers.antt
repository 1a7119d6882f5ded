use Rattle.std.proofs.Common.{rules}
use Rattle.vipr_write.proofs.SameRows.{same_entries}
use Rattle.vipr_write.proofs.rows.is_named.Goals as goal

pub returns-then-is_row : goal.returns-then-is_row
returns-then-is_row c =
    let same = same_entries c.args.objective.now c.args.row.now c.is_row.result c.is_row.ensures in
    search rules

pub returns-else-is_row : goal.returns-else-is_row
returns-else-is_row c =
    let same = same_entries c.args.objective.now c.args.row.now c.is_row.result c.is_row.ensures in
    search rules
