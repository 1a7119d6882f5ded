use Rattle.std.proofs.Common.{rules}
use Rattle.vipr_write.proofs.StepReasons.{zero_short}
use Rattle.vipr_write.proofs.short_entry.ShortEntrySumEntry.is_zero.Goals as goal

pub returns : goal.returns
returns c = zero_short c.args.self.now _ (search rules)
