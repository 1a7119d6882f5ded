use Rattle.std.proofs.Common.{◌≡◌, ◌∙◌, ap, replicate}
use Rattle.vipr_spec.specs.Fraction.{zero_ℚ}
use Rattle.vipr_linear.proofs.Marks.{covered_at_first}
use Rattle.vipr_linear.proofs.places.Places.new.Goals as goal

pub invariant_of-result : goal.invariant_of-result
invariant_of-result c =
    let sums : c.in_ok-vec.field-0.items ≡ replicate c.args.n zero_ℚ =
    c.in_ok-vec.ensures.items_if_clones_equal (λ y e. e)
    ∙ ap (replicate c.args.n) c.zero.ensures in
    rw (sums, c.in_ok-new.ensures) (covered_at_first c.args.n)
