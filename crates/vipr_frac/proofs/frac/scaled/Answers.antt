use Rattle.std.proofs.{Common.pos, lemmas.Int.to_z-of_z}
use Rattle.std.specs.Int.{w128}
use Rattle.vipr_frac.proofs.Views.{as-is}
use Rattle.vipr_frac.proofs.frac.scaled.Goals as goal

pub returns-clause-fits : goal.returns-clause-fits
returns-clause-fits c = rw (to_z-of_z w128 c.args.p c.ranges.p, as-is (pos c.args.n) c.requires) at
    c.bounded_product.ensures.fits

pub returns-clause-value : goal.returns-clause-value
returns-clause-value c = rw (to_z-of_z w128 c.args.p c.ranges.p, as-is (pos c.args.n) c.requires) at
    c.bounded_product.ensures.value
