use Rattle.std.proofs.{Common.◌∙◌, Common.sym, Common.inl, Common.inr, lemmas.Bool.false≢true}
use Rattle.vipr_linear.proofs.Points.{all_left, none_left_whole, one_less, first_found}
use Rattle.vipr_linear.proofs.values.first_fractional.Goals as goal
use Rattle.vipr_linear.proofs.values.first_fractional.Goals.{else-not-is_whole-via-then-not-is_whole+else-contains}
use Rattle.vipr_linear.proofs.values.first_fractional.Goals.{else-not-is_whole-via-else-not-is_whole}

pub loop-variable-init : goal.loop-variable-init
loop-variable-init c =
    all_left c.args.ints.now c.args.solution.now.0 c.entries-variable-items.result.now
    c.entries-variable-items.ensures.rising c.entries-variable-items.ensures.list

pub loop-variable-preserved : goal.loop-variable-preserved
loop-variable-preserved c =
    one_less c.args.ints.now c.args.solution.now.0 c.entries-variable-items.result.now
    c.entries-variable-items.ensures.rising c.entries-variable-items.ensures.list
    c.loop-variable.variable-index c.loop-variable-item.result c.loop-variable-test.true
    c.loop-variable-item.is c.loop-variable.invariant
    (elim c.else-not-is_whole.branch [
      | else-not-is_whole-via-then-not-is_whole+else-contains w ↦
          inr (λ integer.
          absurd (false≢true (sym w.if-contains.false ∙ w.contains.ensures.1 integer)))
      | else-not-is_whole-via-else-not-is_whole w ↦ inl (c.is_whole.ensures.value.0 w.if-not-is_whole.false)
    ])

pub returns-then-contains : goal.returns-then-contains
returns-then-contains c =
    first_found c.args.ints.now c.args.solution.now.0 c.entries-variable-items.result.now
    c.entries-variable-items.ensures.rising c.entries-variable-items.ensures.list
    c.loop-variable.variable-index c.loop-variable-item.result c.loop-variable-test.true
    c.loop-variable-item.is c.loop-variable.invariant
    (c.contains.ensures.0 c.if-contains.true)
    (λ w. absurd (false≢true (sym c.if-not-is_whole.true ∙ c.is_whole.ensures.value.1 w)))

pub returns : goal.returns
returns c = none_left_whole c.args.ints.now c.args.solution.now.0
    c.entries-variable-items.result.now c.entries-variable-items.ensures.rising
    c.entries-variable-items.ensures.list c.loop-variable.variable-index c.loop-variable-test.false
    c.loop-variable.invariant
