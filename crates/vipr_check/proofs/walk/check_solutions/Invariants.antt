use Rattle.std.proofs.Common.{List}
use Rattle.vipr_spec.specs.Constraint.{Profile, Row}
use Rattle.vipr_spec.specs.Certificate.{Named, Problem}
use Rattle.vipr_check.specs.Run.{IsAmong, HasListed}
use Rattle.vipr_check.proofs.walk.check_solutions.Given as goal

abbrev pub invariant-solutions : goal.invariant-solutions
invariant-solutions g l = (P : Profile) (p : Problem) (ss : List (Named Row))
    → IsAmong P p ss l.initial.checker l.initial.solutions
    → HasListed P p ss l.initial.solutions l.checker l.solutions

abbrev pub decreases-solutions : goal.decreases-solutions
decreases-solutions g l = l.solutions.left
