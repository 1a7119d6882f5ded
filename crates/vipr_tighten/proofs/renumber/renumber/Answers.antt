use Rattle.std.proofs.Common.{◌≡◌, ◌+◌, ◌<◌, ◌++◌, ◌∷◌, [], length, length-append, vec_items, arith}
use Rattle.std.proofs.Common.{◌∙◌, ap}
use Rattle.std.proofs.lemmas.List.{with_items_is}
use Rattle.vipr_tighten.proofs.Renumbering.{left_more, place_left_out, place_taken_over}
use Rattle.vipr_tighten.proofs.renumber.renumber.Goals as goal
use Rattle.vipr_tighten.proofs.renumber.renumber.Goals.{then-marks-place, else-marks-place}

pub loop-place-preserved : goal.loop-place-preserved
loop-place-preserved g c =
    let first = c.args.first in
    let marks = c.args.marks.now in
    let all = c.args.steps.now.items in
    let ds = c.loop-place.steps.items in
    let table = c.loop-place.table.items in
    let kept = c.loop-place.kept in
    let place = c.loop-place.place in
    let inv = c.loop-place.invariant in
    let there : place < length all = omega (arith, c.loop-place-test.true, c.len-place-end.ensures) in
    let more : length (table ++ (first + kept) ∷ []) ≡ length table + 1 = length-append table ((first + kept) ∷ []) in
    let longer : c.push.new.self.items ≡ table ++ (first + kept) ∷ [] = c.in_ok-push.ensures.items in
    elim c.if-marks-place.branch [
      | then-marks-place w ↦
          let new = w.take_over.new.steps in
          let long : length new ≡ length c.loop-place.steps.items = w.take_over.auto.steps
          ∙ ap length w.deref_mut.ensures.value in
          let are : c.if-marks-place.steps.items ≡ new = ap vec_items w.steps-is
          ∙ with_items_is c.loop-place.steps new (w.take_over.auto.steps
          ∙ w.deref_mut.ensures.len) in
          let takes = rw (w.deref.ensures.value, w.deref_mut.ensures.value) at w.take_over.ensures in
          rw (longer, are, w.kept-is) record {
            size = long ∙ inv.size;
            place = omega (arith, more, inv.place);
            behind = omega (arith, inv.behind);
            left = takes.left ∙ left_more ds all place (omega (arith, inv.size, there)) there inv.left;
            so_far = λ view earlier.
                place_taken_over (g.D.Tightenable.derived view) first marks all ds table kept place
                inv.size inv.place inv.behind inv.left there (inv.so_far view earlier)
                w.if-marks-place.true earlier new (takes.kept view);
          }
      | else-marks-place w ↦
          let same : c.if-marks-place.steps.items ≡ ds = ap vec_items w.steps-is in
          rw (longer, same, w.kept-is) record {
            size = inv.size;
            place = omega (arith, more, inv.place);
            behind = omega (arith, inv.behind);
            left = left_more ds all place (omega (arith, inv.size, there)) there inv.left;
            so_far = λ view earlier.
                place_left_out (g.D.Tightenable.derived view) first marks all ds table kept place
                inv.size inv.place inv.behind inv.left there (inv.so_far view earlier)
                w.if-marks-place.false;
          }
    ]
