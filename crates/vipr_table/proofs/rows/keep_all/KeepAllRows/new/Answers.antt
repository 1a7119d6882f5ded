use Rattle.vipr_table.proofs.KeepAllLemmas.{IsKept-empty}
use Rattle.vipr_table.proofs.rows.keep_all.KeepAllRows.new.Goals as goal

pub invariant_of-result : goal.invariant_of-result
invariant_of-result c = rw (c.new.ensures.items, c.new-2.ensures) (IsKept-empty c.args.first)
