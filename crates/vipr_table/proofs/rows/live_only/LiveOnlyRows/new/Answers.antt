use Rattle.vipr_table.proofs.ExpiryOrderLemmas.{IsTied-empty}
use Rattle.vipr_table.proofs.rows.live_only.LiveOnlyRows.new.Goals as goal

pub invariant_of-result : goal.invariant_of-result
invariant_of-result c = rw (c.with_hasher.ensures.empty, c.new.ensures) (IsTied-empty c.args.first)
