use Rattle.std.proofs.Common.{take}
use Rattle.std.specs.Prelude.{flat_map}
use Rattle.vipr_spec.specs.Certificate.{Certificate, Derivation}
use Rattle.vipr_spec.specs.{Constraint.Profile, Steps.reference_tests}
use Rattle.vipr_rules.specs.{Apply.PassesTestsIn, Context.IsContextOf}
use Rattle.vipr_rules.proofs.sum.check_references.Given as goal

abbrev pub invariant-loop-entry : goal.invariant-loop-entry
invariant-loop-entry g l = (P : Profile) (c : Certificate) (d : Derivation)
    → IsContextOf g.S.Rows.table P c l.context
    → PassesTestsIn P c d (flat_map reference_tests (take l.entry-index l.entries))
