use Rattle.std.proofs.Common.{◌-◌, ◌<◌, length, arith}
use Rattle.std.proofs.lemmas.Bool.Decides.{nat_tests}
use Rattle.vipr_linear.proofs.Rows.{ends_greatest}
use Rattle.vipr_linear.proofs.row.ends_below.Goals as goal

pub returns : goal.returns
returns c =
    let some : 0 < length c.args.entries.now = grind (arith, nat_tests) in
    let last = c.index-entries-entries.result in (
      λ t. ends_greatest 0 c.args.entries.now c.args.n (length c.args.entries.now - 1) last
          c.requires (omega arith) (grind (arith, nat_tests)),
      λ all. let less = all (length c.args.entries.now - 1) last (omega arith) in grind (arith, nat_tests),
    )
