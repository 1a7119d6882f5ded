use Rattle.std.proofs.Common.{arith, ap, sym, subst, ◌∙◌, ◌≡◌, ◌+◌, ◌++◌, drop, take, length}
use Rattle.std.proofs.Math.Seq.{take-append_seam}
use Rattle.vipr_spec.specs.Constraint.{Constraint}
use Rattle.vipr_rules.specs.Columns.{given_of, AreColumns}
use Rattle.vipr_rules.proofs.ColumnLemmas.{given_nth}
use Rattle.vipr_rules.proofs.columns.columns_of.Goals as goal

pub loop-index-preserved : goal.loop-index-preserved
loop-index-preserved c =
    let new = c.add_row.new.columns in
    let past = drop (length new) c.loop-index.columns.items in
    let long : length new ≡ c.loop-index.columns.len = omega (arith, c.add_row.auto.columns, c.deref_mut.ensures.len) in
    let same : take c.loop-index.columns.len (new ++ past) ≡ new =
    ap (λ k. take k (new ++ past)) (sym long) ∙ take-append_seam new past in
    let row = ap (λ (d : Constraint). d.row)
    (given_nth c.args.cons.now c.loop-index.index c.index-cons-index.result
    c.loop-index-test.true c.index-cons-index.is) in
    let before =
    subst (AreColumns c.args.objective.now (given_of c.args.cons.now) c.loop-index.index)
    (sym c.deref_mut.ensures.value) c.loop-index.invariant.columns in
    record {
      columns = subst
          (AreColumns c.args.objective.now (given_of c.args.cons.now) (c.loop-index.index + 1))
          (sym same) (c.in_ok-add_row.ensures (given_of c.args.cons.now) row before);
      variables = ap length same
          ∙ (omega (
            arith,
            c.add_row.auto.columns,
            c.loop-index.invariant.variables,
            ap length c.deref_mut.ensures.value,
          ));
    }

pub returns-clause-columns : goal.returns-clause-columns
returns-clause-columns c =
    let all : c.loop-index.index ≡ length c.args.cons.now =
    omega (arith, c.loop-index.auto.index-end, c.loop-index-test.false) in
    subst (λ n. AreColumns c.args.objective.now (given_of c.args.cons.now) n
    c.loop-index.columns.items) all c.loop-index.invariant.columns
