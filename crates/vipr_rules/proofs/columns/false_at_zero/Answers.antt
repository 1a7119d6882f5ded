use Rattle.std.proofs.Common.{◌⊎◌, ◌+◌, ap, sym, subst, ◌∙◌, vec_items}
use Rattle.vipr_spec.specs.{Constraint.Constraint, Constraint.Compares, Fraction.zero_ℚ}
use Rattle.vipr_rules.specs.Columns.{given_of, HasRow, AreFalseAtZero}
use Rattle.vipr_rules.proofs.ColumnLemmas.{false_next, false_more, given_nth}
use Rattle.vipr_rules.proofs.columns.false_at_zero.Goals as goal
use Rattle.vipr_rules.proofs.columns.false_at_zero.Goals.{then-is_false_at_zero+in_ok-push}
use Rattle.vipr_rules.proofs.columns.false_at_zero.Goals.{else-is_false_at_zero}

pub loop-index-preserved : goal.loop-index-preserved
loop-index-preserved c =
    let o = c.args.objective.now in
    let cs = given_of c.args.cons.now in
    elim c.if-is_false_at_zero.branch [
      | then-is_false_at_zero+in_ok-push w ↦
          subst (AreFalseAtZero o cs (c.loop-index.index + 1))
          (sym (ap vec_items w.indices-is ∙ w.in_ok-push.ensures.items))
          (false_more o cs c.loop-index.index c.loop-index.indices.items c.loop-index.invariant)
      | else-is_false_at_zero w ↦
          let given = given_nth c.args.cons.now c.loop-index.index c.index-cons-index.result
          c.loop-index-test.true c.index-cons-index.is in
          subst (AreFalseAtZero o cs (c.loop-index.index + 1)) (sym (ap vec_items w.indices-is))
          (false_next o cs c.loop-index.index c.loop-index.indices.items c.loop-index.invariant
          (subst (λ (d : Constraint). HasRow o d ⊎ Compares d.sense zero_ℚ d.bound) (sym given)
          (c.is_false_at_zero.ensures w.if-is_false_at_zero.false)))
    ]
