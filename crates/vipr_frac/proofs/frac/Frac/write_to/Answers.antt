use Rattle.vipr_spec.proofs.Laws.{text_short}
use Rattle.vipr_frac.proofs.frac.Frac.write_to.Goals as goal

pub returns-in_err-reserve-clause-short : goal.returns-in_err-reserve-clause-short
returns-in_err-reserve-clause-short c = text_short c.args.self.now c.numer.ensures.bounded

pub returns-clause-short : goal.returns-clause-short
returns-clause-short c = text_short c.args.self.now c.numer.ensures.bounded
