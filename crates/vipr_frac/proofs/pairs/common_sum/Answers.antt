use Rattle.std.proofs.Common.{rules, ◌≡◌, ◌*◌, ◌/◌, ◌<◌, pos, FitsSigned}
use Rattle.std.proofs.{Math.Nat.mul-pos, lemmas.Int.to_z-of_z}
use Rattle.std.specs.{Int.w64, Prelude.◌+ℤ◌, Prelude.◌*ℤ◌}
use Rattle.vipr_spec.specs.Fraction.{over, ◌+ℚ◌}
use Rattle.vipr_frac.proofs.Unreduced.{common_sum, factor_some}
use Rattle.vipr_frac.proofs.pairs.common_sum.Goals as goal
use Rattle.vipr_frac.proofs.pairs.common_sum.Goals.{After-word_quotient-left}

-- the denominators without their common divisor
module _ (c : After-word_quotient-left) where
  sum_is : over (c.args.p *ℤ pos (c.args.s / c.args.g) +ℤ c.args.r *ℤ pos (c.args.q / c.args.g))
      (c.args.q * (c.args.s / c.args.g)) ≡ over c.args.p c.args.q +ℚ over c.args.r c.args.s
  sum_is =
      common_sum c.args.q c.args.s c.args.g (c.args.s / c.args.g) (c.args.q / c.args.g)
      c.requires.left.some c.requires.right.some c.requires.some c.requires.divides_left
      c.requires.divides_right c.args.p c.args.r

  some : 0 < c.args.s / c.args.g
  some =
      factor_some c.args.q c.args.s c.args.g (c.args.s / c.args.g) (c.args.q / c.args.g)
      c.requires.left.some c.requires.right.some c.requires.some c.requires.divides_left
      c.requires.divides_right

pub returns-clause-sum : goal.returns-clause-sum
returns-clause-sum c =
    let fits : FitsSigned w64 c.in_ok-sum.sum = search rules in
    let sum = rw (
      to_z-of_z w64 c.args.p c.ranges.p,
      to_z-of_z w64 c.args.r c.ranges.r,
      c.word_quotient-left.ensures,
      c.word_quotient.ensures,
    ) at c.in_ok-sum.ensures in
    rw (to_z-of_z w64 _ fits, sum, c.in_ok-denominator.ensures.0, c.word_quotient-left.ensures)
    (sum_is (goal.at.returns-clause-sum c).After-word_quotient-left)

pub returns-clause-some : goal.returns-clause-some
returns-clause-some c =
    rw (c.in_ok-denominator.ensures.0, c.word_quotient-left.ensures)
    (mul-pos c.requires.left.some
    (some (goal.at.returns-clause-some c).After-word_quotient-left))
