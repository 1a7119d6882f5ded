use Rattle.std.proofs.{Common.◌≡◌, Common.arith, Common.to_z, Common.of_z, lemmas.Int.ints}
use Rattle.std.specs.Int.{w128}
use Rattle.vipr_linear.proofs.Roundings.{none_left}
use Rattle.vipr_linear.proofs.split.leaves_none.Goals as goal

pub returns : goal.returns
returns c =
    let high_is : to_z w128 (of_z w128 c.ceil.result) ≡ c.ceil.result = omega (arith, ints) in
    let low_is : to_z w128 (of_z w128 c.floor.result) ≡ c.floor.result = omega (arith, ints) in
    let known = rw (high_is, low_is) at c.is_at_most_one_more.ensures in
    none_left c.args.low c.args.high c.floor.result c.ceil.result c.is_at_most_one_more.result
    c.floor.ensures.floor c.ceil.ensures.ceil known
