use Rattle.std.specs.List.{AllWithin}
use Rattle.vipr_spec.specs.Tokens.{IsToken}
use Rattle.vipr_cert.proofs.limits.names_are_tokens.Given as goal

abbrev pub invariant-loop-name : goal.invariant-loop-name
invariant-loop-name l = AllWithin IsToken l.names 0 l.name-index
