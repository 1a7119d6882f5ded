use Rattle.std.proofs.Common.{ap, length, ◌∙◌, arith, Ok, Err}
use Rattle.std.specs.Prelude.{Result, OnOk}
use Rattle.vipr_spec.specs.{Certificate.variables, Constraint.NamesBelow, Constraint.at}
use Rattle.vipr_table.proofs.Laws.{DerivedBelow-step}
use Rattle.vipr_explain.proofs.near.NearSearch.pass.Goals as goal

on_ok : {A E : Type 0} (r : Result A E) (X Y : Type 0) → (X → Y) → OnOk r X → OnOk r Y
on_ok (Ok a) X Y f h = f h
on_ok (Err e) X Y f h = tt

pub returns-in-Ok : goal.returns-in-Ok
returns-in-Ok c =
    let p = c.args.problem.now in
    let entry = c.in_ok-entry.entry in
    let step : NamesBelow (variables p) (at entry.constraint.row) =
    grind (
      arith,
      c.names_below.ensures,
      c.names.ensures.names,
      c.in_ok-entry.ensures,
      c.if-not-names_below.false,
    ) in
    on_ok c.place.result _ _ (λ placed. record {
      below = rw placed (DerivedBelow-step (variables p) _ entry (rw c.keep.ensures c.requires.below) step);
      scratch = ap (λ r. length r.scratch.sums) c.keep.ensures ∙ c.requires.scratch;
    }) c.place.ensures
