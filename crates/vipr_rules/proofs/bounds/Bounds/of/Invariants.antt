use Rattle.vipr_rules.specs.Columns.{given_of, AreBounds}
use Rattle.vipr_rules.proofs.bounds.Bounds.of.Given as goal

abbrev pub invariant-loop-named : goal.invariant-loop-named
invariant-loop-named l = AreBounds l.objective (given_of l.cons) l.named-index l.bounds
