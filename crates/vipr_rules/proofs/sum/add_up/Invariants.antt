use Rattle.std.proofs.Common.{◌≡◌, ℕ, [], false, take, length}
use Rattle.std.specs.Prelude.{flat_map}
use Rattle.vipr_spec.specs.Constraint.{Profile, Condition, Point}
use Rattle.vipr_spec.specs.Certificate.{Certificate, Derivation, variables, entries}
use Rattle.vipr_spec.specs.Steps.{reference_tests, entry_tests}
use Rattle.vipr_linear.specs.Accumulator.{Holds}
use Rattle.vipr_rules.specs.Context.{IsContextOf, IsSetOfAll, set_found, AreJoined}
use Rattle.vipr_rules.specs.{Apply.PassesTestsIn, Soundness.IsSoundAt}
use Rattle.vipr_table.specs.Unions.{union_so_far}
use Rattle.vipr_rules.proofs.{SoundLemmas.AreTrue, SumLemmas.IsTrueSum}
use Rattle.vipr_rules.proofs.sum.add_up.Given as goal

abbrev pub invariant-loop-position : goal.invariant-loop-position
invariant-loop-position g l =
    record {
      places : length l.scratch.sums ≡ variables l.context.problem.now;
      fresh : l.scratch.spent ≡ false;
      sum : (P : Profile) (c : Certificate) (d : Derivation) → IsContextOf g.S.Rows.table P c l.context
          → PassesTestsIn P c d (flat_map reference_tests (take l.position l.entries))
          × PassesTestsIn P c d (entry_tests [] (take l.position l.entries))
          × Holds (variables l.context.problem.now) (entries c (take l.position l.entries))
          l.scratch × IsSetOfAll c (take l.position l.entries) (union_so_far l.assumptions);
      sound : (says : ℕ → Condition) (x : Point) → IsSoundAt g.S.Rows.table l.context says x
          → AreTrue (variables l.context.problem.now) says (union_so_far l.assumptions) x
          → IsTrueSum (variables l.context.problem.now) x l.scratch;
      joined : AreJoined (set_found g.S.Rows.table l.context) l.assumptions;
    }
