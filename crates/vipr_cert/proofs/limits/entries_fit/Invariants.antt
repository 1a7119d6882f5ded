use Rattle.std.specs.List.{AllWithin}
use Rattle.vipr_spec.specs.Shape.{EntryFits}
use Rattle.vipr_cert.proofs.limits.entries_fit.Given as goal

abbrev pub invariant-loop-each : goal.invariant-loop-each
invariant-loop-each l = AllWithin EntryFits l.entries 0 l.each-index
