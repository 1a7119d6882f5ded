use Rattle.std.proofs.Common.{◌≡◌, List, []}
use Rattle.std.specs.List.{All}
use Rattle.vipr_spec.specs.Certificate.{Named, Problem}
use Rattle.vipr_spec.specs.{Constraint.Profile, Constraint.Row, Shape.RowFits, Shape.SolutionShape}
use Rattle.vipr_bytes.specs.{Grown.GrowsBy, Puts.Puts}
use Rattle.vipr_check.specs.Run.{IsAmong}
use Rattle.vipr_tighten.specs.Keeping.{KeepsListed}
use Rattle.vipr_tighten.proofs.Lines.{lines_with}
use Rattle.vipr_tighten.proofs.proof_reader.read_listed.Given as goal

abbrev pub invariant-solutions : goal.invariant-solutions
invariant-solutions g l = record {
  variables : l.solutions.variables ≡ l.initial.solutions.variables;
  read : (ss : List (Named Row)) × Puts GrowsBy l.fn.listed l.listed (lines_with ss l.solutions.left)
      × All (SolutionShape l.initial.solutions.variables) ss × All (λ (s : Named Row). RowFits s.item) ss
      × ((P : Profile) (p : Problem) → IsAmong P p [] l.initial.checker l.initial.solutions
      → KeepsListed P p l.initial.solutions ss l.checker l.solutions);
}

abbrev pub decreases-solutions : goal.decreases-solutions
decreases-solutions g l = l.solutions.left
