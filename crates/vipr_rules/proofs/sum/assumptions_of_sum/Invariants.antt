use Rattle.std.proofs.Common.{take}
use Rattle.std.specs.Prelude.{flat_map}
use Rattle.vipr_spec.specs.Certificate.{Certificate, Derivation}
use Rattle.vipr_spec.specs.{Constraint.Profile, Steps.reference_tests}
use Rattle.vipr_rules.specs.Context.{IsContextOf, IsSetOfAll, set_found, AreJoined}
use Rattle.vipr_rules.specs.{Apply.PassesTestsIn}
use Rattle.vipr_table.specs.Unions.{union_so_far}
use Rattle.vipr_rules.proofs.sum.assumptions_of_sum.Given as goal

abbrev pub invariant-loop-entry : goal.invariant-loop-entry
invariant-loop-entry g l =
    record {
      sum : (P : Profile) (c : Certificate) (d : Derivation) → IsContextOf g.S.Rows.table P c l.context
          → PassesTestsIn P c d (flat_map reference_tests (take l.entry-index l.entries))
          × IsSetOfAll c (take l.entry-index l.entries) (union_so_far l.assumptions);
      joined : AreJoined (set_found g.S.Rows.table l.context) l.assumptions;
    }
