use Rattle.vipr_spec.proofs.Fractions.{over_same, over-le, over-add, over-mul, over-IsWhole}
use Rattle.vipr_spec.proofs.Points.{over_parts}
use Rattle.vipr_spec.proofs.arithmetic.cross_products.Goals as goal

pub returns : goal.returns
returns c = record {
  same = over_same;
  at_most = over-le;
  sum = over-add;
  product = over-mul;
  whole = over-IsWhole;
  parts = over_parts;
  positive = λ x. x.lowest.positive;
}
