-- What stays the same through one call stays so through two
use Rattle.std.proofs.Common.{arith}
use Rattle.vipr_read.specs.Parsing.{Parsing, Retains}

pub kept_on : (a b c : Parsing) → Retains a b → Retains b c → Retains a c
kept_on a b c first then = grind arith
