use Rattle.std.proofs.Common.{arith, ◌≡◌, ap, length}
use Rattle.vipr_linear.proofs.Marks.{touched_below, none_touched, all_false}
use Rattle.vipr_linear.proofs.places.Touched.clear.Goals as goal

pub index_mut-requires : goal.index_mut-requires
index_mut-requires c =
    let below = touched_below c.self.inside.marks.items c.self.inside.list.items
    c.deref-place-items.result.now c.loop-place.place-index c.self.invariant.touching
    c.deref-place-items.ensures.value c.loop-place-test.true in
    let long : length c.self.inside.marks.items ≡ length c.args.self.now = ap length c.self.view_is in
    let now = c.loop-place.invariant.places in
    let ok = c.loop-place.self-inside.1.0.ok in
    omega (arith, below, long, now, ok.0)

pub invariant_of-self : goal.invariant_of-self
invariant_of-self c =
    let long : length c.self.inside.marks.items ≡ length c.args.self.now = ap length c.self.view_is in
    let now = c.loop-place.invariant.places in
    let room = c.self.invariant.room in
    let capacity = c.clear.ensures.capacity in
    record {
      room = omega (arith, long, now, room, capacity);
      touching = rw c.clear.ensures.items
          (none_touched c.loop-place.self-inside.1.0.items c.deref-place-items.result.now
          c.loop-place.place-index c.loop-place-test.false c.loop-place.invariant.marks);
    }

pub returns : goal.returns
returns c = all_false c.loop-place.self-inside.1.0.items (length c.args.self.now)
    c.loop-place.invariant.places
    (none_touched c.loop-place.self-inside.1.0.items c.deref-place-items.result.now
    c.loop-place.place-index c.loop-place-test.false c.loop-place.invariant.marks)
