use Rattle.std.proofs.Common.{refl}
use Rattle.vipr_write.proofs.Folding.{folds_text}
use Rattle.vipr_write.proofs.folded.FoldedOut.put.Goals as goal

pub returns : goal.returns
returns c = folds_text c.args.self.now _ _ refl refl refl refl refl c.put.ensures
