use Rattle.std.proofs.Common.{◌≡◌, ◌∙◌, sym, arith, to_z, of_z}
use Rattle.std.proofs.{lemmas.Bool.false≢true, lemmas.Int.ints}
use Rattle.std.specs.Int.{w128}
use Rattle.vipr_linear.proofs.Roundings.{next_known}
use Rattle.vipr_linear.proofs.split.is_next.Goals as goal
use Rattle.vipr_linear.proofs.split.is_next.Goals.{then-is_whole, else-is_whole}

pub returns-then-is_whole-2 : goal.returns-then-is_whole-2
returns-then-is_whole-2 c =
    let high_is : to_z w128 (of_z w128 c.numer-then-is_whole-2.result) ≡
    c.numer-then-is_whole-2.result = omega (arith, ints) in
    let low_is : to_z w128 (of_z w128 c.numer.result) ≡ c.numer.result = omega (arith, ints) in
    let known = rw (high_is, low_is, c.numer-then-is_whole-2.ensures.value, c.numer.ensures.value)
    at c.is_one_more.ensures in
    elim c.if-is_whole.branch [
      | then-is_whole w ↦ next_known c.args.low c.args.high c.is_one_more.result
          (c.is_whole.ensures.denominator.0 w.if-is_whole.true)
          (w.is_whole-then-is_whole.ensures.denominator.0 (sym w.value-is ∙ c.if-is_whole-2.true))
          known
      | else-is_whole w ↦ absurd (false≢true (sym w.if-is_whole.false ∙ sym w.value-is ∙ c.if-is_whole-2.true))
    ]
