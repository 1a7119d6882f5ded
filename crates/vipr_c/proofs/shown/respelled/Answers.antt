use Rattle.vipr_c.proofs.shown.respelled.Goals as goal

pub returns : goal.returns
returns c = rw c.new.ensures at c.respell.ensures
