use Rattle.std.proofs.Common.{arith}
use Rattle.vipr_spec.specs.Certificate.{variables}
use Rattle.vipr_cert.proofs.Members.{members_are}
use Rattle.vipr_cert.proofs.problem.Problem.integer_variables.Goals as goal

pub returns-clause-variables : goal.returns-clause-variables
returns-clause-variables c = grind (arith, members_are, variables)
