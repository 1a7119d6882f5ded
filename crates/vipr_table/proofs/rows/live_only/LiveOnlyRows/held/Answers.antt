use Rattle.std.proofs.Common.{ap, ◌∙◌}
use Rattle.vipr_table.specs.Table.{held_count}
use Rattle.vipr_table.proofs.TableLemmas.{len-entries_of}
use Rattle.vipr_table.proofs.rows.live_only.LiveOnlyRows.held.Goals as goal

pub returns : goal.returns
returns c = c.len.ensures.len ∙ len-entries_of c.self.inside.rows.entries c.len.ensures.unique
    ∙ ap held_count c.self.view_is
