use Rattle.vipr_frac.proofs.Views.{made-of}
use Rattle.vipr_frac.proofs.frac.exact_sum.Goals as goal

pub returns-clause-fits : goal.returns-clause-fits
returns-clause-fits c =
    rw (
      made-of _ _ _ c.of_parts.ensures c.requires.left,
      made-of _ _ _ c.of_parts-2.ensures c.requires.right,
    ) at c.sum_by_parts.ensures.fits

pub returns-clause-value : goal.returns-clause-value
returns-clause-value c =
    rw (
      made-of _ _ _ c.of_parts.ensures c.requires.left,
      made-of _ _ _ c.of_parts-2.ensures c.requires.right,
    ) at c.sum_by_parts.ensures.value
