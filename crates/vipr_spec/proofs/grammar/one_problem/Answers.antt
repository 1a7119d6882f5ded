use Rattle.vipr_spec.proofs.Stated.{spelled_only}
use Rattle.vipr_spec.proofs.grammar.one_problem.Goals as goal

pub returns : goal.returns
returns c = spelled_only
