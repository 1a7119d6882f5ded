use Rattle.std.proofs.Common.{◌+◌, ◌≤◌, ◌∙◌, ap, sym, drop, length, subst}
use Rattle.vipr_linear.specs.Values.{with_set}
use Rattle.vipr_linear.proofs.Points.{next_set, next_left_out, none_left}
use Rattle.vipr_linear.proofs.places.Places.set.Goals as goal
use Rattle.vipr_linear.proofs.places.Places.set.Goals.{then-variable-sums, else-variable-sums}

pub loop-variable-preserved : goal.loop-variable-preserved
loop-variable-preserved c =
    let i = c.loop-variable.variable-index in
    let rest = drop (i + 1) c.args.entries.now in
    elim c.if-variable-sums.branch [
      | then-variable-sums w ↦
          ap (λ xs. with_set xs rest) (w.self-is ∙ w.set_at.ensures)
          ∙ sym (next_set c.loop-variable.self c.args.entries.now i c.loop-variable-item.result
          c.loop-variable-test.true c.loop-variable-item.is)
          ∙ c.loop-variable.invariant
      | else-variable-sums w ↦
          let past = subst (λ xs. length xs ≤ c.loop-variable-item.result.0) c.sums.ensures w.if-variable-sums.false in
          ap (λ xs. with_set xs rest) w.self-is
          ∙ sym (next_left_out c.loop-variable.self c.args.entries.now i c.loop-variable-item.result
          c.loop-variable-test.true c.loop-variable-item.is past)
          ∙ c.loop-variable.invariant
    ]

pub returns : goal.returns
returns c = sym
    (none_left c.loop-variable.self c.args.entries.now c.loop-variable.variable-index
    c.loop-variable-test.false) ∙ c.loop-variable.invariant
