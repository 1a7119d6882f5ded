use Rattle.std.proofs.Common.{◌≡◌, List}
use Rattle.vipr_spec.specs.Certificate.{Named, Problem, Derivation}
use Rattle.vipr_spec.specs.{Checking.start, Constraint.Profile, Constraint.Row, Steps.with_more}
use Rattle.vipr_check.specs.Run.{IsAt}
use Rattle.vipr_tighten.specs.Keeping.{IsForSame, KeepsDerived, KeepsSteps}
use Rattle.vipr_tighten.proofs.proof_reader.read_derived.Given as goal

abbrev pub invariant-steps : goal.invariant-steps
invariant-steps g l = record {
  same : IsForSame l.initial.statements l.statements;
  variables : l.derivations.variables ≡ l.initial.derivations.variables;
  read : (ds : List Derivation) × KeepsSteps l.initial.derivations.variables l.statements l.steps.items ds
      × ((P : Profile) (p : Problem) (ss : List (Named Row))
      → IsAt P (start p ss) l.initial.checker l.initial.derivations
      → KeepsDerived P (start p ss) l.initial.derivations (with_more (start p ss) ds) l.checker l.derivations);
}

abbrev pub decreases-steps : goal.decreases-steps
decreases-steps g l = l.derivations.left
