use Rattle.vipr_write.proofs.{SpelledParts.can_write_spelled, SpelledTokens.short_tokens}
use Rattle.vipr_write.proofs.canonical.spelled_ones.Goals as goal

pub returns : goal.returns
returns g text c s = can_write_spelled _ c (short_tokens text s.short) s
