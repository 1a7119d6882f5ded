use Rattle.std.proofs.Common.{vec_items}
use Rattle.vipr_bytes.proofs.Laws.{grown_whole}
use Rattle.vipr_write.proofs.rows.spelled_objective.Goals as goal

pub returns : goal.returns
returns c = grown_whole vec_items c.new-text.result c.spell_row.new.out _ c.into_bytes.result
    c.spell_row.ensures c.new-text.ensures.bytes c.into_bytes.ensures.ok
