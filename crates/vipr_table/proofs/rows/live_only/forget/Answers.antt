use Rattle.vipr_table.proofs.TableLemmas.{entries_removed}
use Rattle.vipr_table.proofs.rows.live_only.forget.Goals as goal

pub returns : goal.returns
returns c = entries_removed c.args.rows.now.entries c.swap_remove.new.self.entries c.args.index
    c.swap_remove.ensures.updates.0
