use Rattle.std.proofs.{Common.◌≡◌, Common.length, Common.arith, lemmas.Bool.Decides.nat_tests}
use Rattle.vipr_table.proofs.UnionsLemmas.{no_few}
use Rattle.vipr_table.proofs.assumptions.union.with_few.Goals as goal

pub returns-then-is_empty : goal.returns-then-is_empty
returns-then-is_empty c =
    let known = c.if-is_empty.true in
    let none : length c.args.few.items ≡ 0 = let e = c.is_empty.ensures in grind (arith, nat_tests) in
    no_few c.args.last c.args.few.items none
