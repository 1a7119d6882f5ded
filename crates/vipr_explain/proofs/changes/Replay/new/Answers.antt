use Rattle.std.proofs.Common.{length, ap, ◌∙◌, sym, subst}
use Rattle.std.proofs.lemmas.List.{length-replicate}
use Rattle.vipr_spec.specs.{Certificate.variables, Fraction.zero_ℚ}
use Rattle.vipr_table.specs.Table.{DerivedBelow}
use Rattle.vipr_table.proofs.Laws.{DerivedBelow-empty}
use Rattle.vipr_explain.proofs.changes.Replay.new.Goals as goal

pub returns-in-Ok : goal.returns-in-Ok
returns-in-Ok c = record {
  below = subst (DerivedBelow (variables c.args.problem.now)) (sym c.new-in-Ok.ensures) (DerivedBelow-empty _ _);
  scratch = ap (λ a. length a.sums) c.in-Ok.ensures
      ∙ length-replicate (length c.names.result.now) zero_ℚ ∙ ap length c.names.ensures.names;
}
