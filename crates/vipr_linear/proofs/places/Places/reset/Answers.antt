use Rattle.std.proofs.Common.{arith, ◌≡◌, ap, length}
use Rattle.vipr_linear.proofs.{Adding.zeros, Collecting.touched_within, Marks.all_zero}
use Rattle.vipr_linear.proofs.places.Places.reset.Goals as goal

pub index_mut-requires : goal.index_mut-requires
index_mut-requires c =
    let below = touched_within c.self.inside.sums.items c.self.inside.touched
    c.places-place-items.result.now c.self.invariant.places c.places-place-items.ensures
    c.loop-place.place-index 0 c.loop-place-test.true in
    let long : length c.self.inside.sums.items ≡ length c.args.self.now = ap length c.self.view_is in
    let now = c.loop-place.invariant.places in
    let ok = c.loop-place.self-inside.1.0.ok in
    omega (arith, below, long, now, ok.0)

pub returns : goal.returns
returns c = zeros c.loop-place.self-inside.1.0.items (length c.args.self.now)
    c.loop-place.invariant.places
    (all_zero c.loop-place.self-inside.1.0.items c.places-place-items.result.now
    c.loop-place.place-index c.loop-place-test.false c.loop-place.invariant.sums)
