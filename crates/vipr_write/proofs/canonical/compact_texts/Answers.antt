use Rattle.vipr_write.proofs.WholeText.{compact_spells}
use Rattle.vipr_write.proofs.canonical.compact_texts.Goals as goal

pub returns : goal.returns
returns c = compact_spells
