-- What is verified is of a proof, whether or not the source tells its bytes
use Rattle.std.proofs.Common.{◌≡◌, Ok, subst}
use Rattle.vipr_spec.specs.Certificate.{Certificate, IsProof}
use Rattle.vipr_spec.specs.{Constraint.Profile, Verdict.Reports}
use Rattle.vipr_check.specs.declared.verdict.Report.{Report}
use Rattle.vipr_check.specs.{State.State, State.Finishes, View.report_of, View.IsOfProof}

pub report_of_proof : (P : Profile) (c : Certificate) (k l : State) (r : Report)
    → k.progress.profile ≡ P → Finishes c k l (Ok r) → IsOfProof P r
report_of_proof P c k l r e h = (c, subst (λ Q. IsProof Q c) e h.0, subst (λ Q. Reports Q c (report_of r)) e h.1, h.2)
