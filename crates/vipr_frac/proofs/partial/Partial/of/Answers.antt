use Rattle.std.proofs.Common.{pos}
use Rattle.vipr_frac.proofs.Views.{as-is, over-self}
use Rattle.vipr_frac.proofs.partial.Partial.of.Goals as goal

pub returns : goal.returns
returns c =
    let x = c.args.fraction in
    let bounded = c.numer.ensures.bounded in
    rw (
      c.numer.ensures.value,
      c.denom.ensures.value,
      as-is x.numer bounded.0,
      as-is (pos x.denom) bounded.1,
    ) (over-self x)
