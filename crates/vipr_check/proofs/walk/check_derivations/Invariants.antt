use Rattle.vipr_spec.specs.{Certificate.Certificate, Constraint.Profile}
use Rattle.vipr_check.specs.Run.{IsAt, HasReached}
use Rattle.vipr_check.proofs.walk.check_derivations.Given as goal

abbrev pub invariant-steps : goal.invariant-steps
invariant-steps g l = (P : Profile) (c : Certificate)
    → IsAt P c l.initial.checker l.initial.derivations
    → HasReached P c l.initial.derivations l.checker l.derivations

abbrev pub decreases-steps : goal.decreases-steps
decreases-steps g l = l.derivations.left
