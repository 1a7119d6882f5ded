use Rattle.std.proofs.Common.{rules}
use Rattle.vipr_c.proofs.vipr_is_verified.Goals as goal

pub returns-in-Ok-true-clause-proof : goal.returns-in-Ok-true-clause-proof
returns-in-Ok-true-clause-proof c = λ _. c.in-Ok-true.ensures.proof.0 (search rules)

pub returns-in-Ok-true-clause-holds : goal.returns-in-Ok-true-clause-holds
returns-in-Ok-true-clause-holds c = λ _. c.in-Ok-true.ensures.holds (search rules)
