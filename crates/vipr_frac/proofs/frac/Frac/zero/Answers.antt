use Rattle.vipr_frac.proofs.frac.Frac.zero.Goals as goal

pub returns : goal.returns
returns c = c.of_whole.ensures
