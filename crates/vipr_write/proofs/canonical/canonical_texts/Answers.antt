use Rattle.vipr_write.proofs.WholeText.{canonical_spells}
use Rattle.vipr_write.proofs.canonical.canonical_texts.Goals as goal

pub returns : goal.returns
returns c = canonical_spells
