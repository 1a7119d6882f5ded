use Rattle.std.proofs.Common.{◌<◌, length, get_or, ◌-◌, arith}
use Rattle.std.proofs.lemmas.Bool.Decides.{nat_tests}
use Rattle.vipr_table.proofs.RisingLemmas.{below_joined}
use Rattle.vipr_table.proofs.assumptions.merge.is_below.Goals as goal

pub returns : goal.returns
returns c = λ h.
    let some : 0 < length c.args.xs.now = grind (arith, nat_tests) in
    let more : 0 < length c.args.ys.now = grind (arith, nat_tests) in
    let lt : get_or c.args.xs.now (length c.args.xs.now - 1) 0 < get_or c.args.ys.now 0 0 = grind (arith, nat_tests) in
    below_joined c.args.xs.now c.args.ys.now c.requires.left c.requires.right some more lt
