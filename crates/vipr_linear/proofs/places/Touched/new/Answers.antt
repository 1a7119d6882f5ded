use Rattle.std.proofs.Common.{◌≡◌, replicate, false}
use Rattle.vipr_linear.proofs.Marks.{touched_at_first}
use Rattle.vipr_linear.proofs.places.Touched.new.Goals as goal

pub invariant_of-result : goal.invariant_of-result
invariant_of-result c =
    let marks : c.in_ok-vec.field-0.items ≡ replicate c.args.n false =
    c.in_ok-vec.ensures.items_if_clones_equal (λ y e. e) in
    rw marks (touched_at_first c.args.n _ _ c.in_ok-with_capacity.ensures.items c.in_ok-with_capacity.ensures.capacity)
