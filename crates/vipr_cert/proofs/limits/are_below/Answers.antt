use Rattle.std.proofs.Common.{arith}
use Rattle.vipr_cert.proofs.Within.{members_below}
use Rattle.vipr_cert.proofs.limits.are_below.Goals as goal

pub returns : goal.returns
returns c = grind (arith, members_below c.indices.result.now c.args.n, c.indices.ensures.set)
