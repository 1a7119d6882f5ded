use Rattle.vipr_spec.proofs.Meaning.{proofs_mean}
use Rattle.vipr_spec.proofs.short.proofs_mean.Goals as goal

pub returns : goal.returns
returns c = proofs_mean
