use Rattle.std.proofs.Common.{refl, sym}
use Rattle.vipr_write.proofs.Folding.{folds_as, folds_text}
use Rattle.vipr_write.proofs.folded.FoldedPutRow.put_row.Goals as goal

pub returns-then-can_mark : goal.returns-then-can_mark
returns-then-can_mark c =
    folds_as c.args.self.now _ _ _ (λ is. sym (c.can_mark.ensures c.if-can_mark.true is))
    c.mark.ensures

pub returns : goal.returns
returns c = folds_text c.args.self.now _ _ refl refl refl refl refl c.spell_row.ensures
