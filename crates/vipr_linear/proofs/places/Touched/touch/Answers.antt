use Rattle.std.proofs.Common.{arith, ◌<◌, ◌≡◌, ◌∙◌, sym, subst, false, true, get_or, length}
use Rattle.std.proofs.Common.{vec_len, vec_capacity}
use Rattle.std.proofs.lemmas.List.{get_or_default, length-set}
use Rattle.vipr_linear.proofs.Marks.{touch_more, touch_room}
use Rattle.vipr_linear.proofs.places.Touched.touch.Goals as goal

pub unwrap-requires : goal.unwrap-requires
unwrap-requires c =
    let within = subst (λ xs. c.args.place < length xs) (sym c.self.view_is) c.requires in
    let unmarked : get_or c.self.inside.marks.items c.args.place false ≡ false =
    get_or_default c.self.inside.marks.items c.args.place false c.index.result.now within
    ∙ sym c.index.ensures ∙ c.if-index.false in
    let more = touch_room c.self.inside.marks.items c.self.inside.list.items c.args.place within
    unmarked c.self.invariant.touching in
    let ok = c.self.inside.list.ok in
    let limit = c.self.invariant.room in
    let less : vec_len c.self.inside.list < vec_capacity c.self.inside.list = omega (arith, more, ok.0, limit) in
    c.push.ensures.succeeds less

pub invariant_of-self : goal.invariant_of-self
invariant_of-self c =
    let within = subst (λ xs. c.args.place < length xs) (sym c.self.view_is) c.requires in
    let unmarked : get_or c.self.inside.marks.items c.args.place false ≡ false =
    get_or_default c.self.inside.marks.items c.args.place false c.index.result.now within
    ∙ sym c.index.ensures ∙ c.if-index.false in
    let is = rw c.unwrap.ensures at c.push.ensures.items in
    let limit = c.self.invariant.room in
    let capacity = c.push.ensures.capacity in
    let long = length-set c.self.inside.marks.items c.args.place true in
    record {
      room = omega (arith, limit, capacity, long);
      touching = rw is
          (touch_more c.self.inside.marks.items c.self.inside.list.items c.args.place within
          unmarked c.self.invariant.touching);
    }
