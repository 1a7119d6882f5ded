use Rattle.std.proofs.Common.{◌≡◌, ℕ, Vec, Global, vec_len, length, max, slice_index_or, arith}
use Rattle.std.proofs.Common.{refl, sym, ◌∙◌, ap, ap₂}
use Rattle.std.proofs.lemmas.List.{length-map, get_or_read, with_items_is}
use Rattle.vipr_write.specs.Steps.{step_of}
use Rattle.vipr_tighten.proofs.Held.{few_held, fewer_dropped, held_now, until_then, most_then}
use Rattle.vipr_tighten.proofs.Held.{drop_here, few_at, each_some, each_none, peak_whole}
use Rattle.vipr_tighten.proofs.Held.{certificate_of, first_of, peak_of, no_statement}
use Rattle.vipr_tighten.proofs.peak.peak.Goals as goal
use Rattle.vipr_tighten.proofs.peak.peak.Goals.{in-Some, in_default}

pub overflow_add-held : goal.overflow_add-held
overflow_add-held c =
    let first = first_of c.args.first c.args.steps.now in
    omega (
      arith,
      few_held (certificate_of c.args.first c.args.steps.now) c.args.first first
          c.loop-place.place,
      c.loop-place.invariant.until,
      c.loop-place-test.true,
      c.requires,
    )

pub overflow_sub-held : goal.overflow_sub-held
overflow_sub-held c =
    let first = first_of c.args.first c.args.steps.now in
    let p = c.loop-place.place in
    let inside = c.loop-place-test.true in
    let read : c.index.result.now ≡ slice_index_or c.loop-place.dropped.items p 0 =
    get_or_read c.loop-place.dropped.items _ _ (let size = c.loop-place.invariant.size in
    omega arith) c.index.ensures 0 in
    let each = c.loop-place.invariant.each p inside in
    let few = fewer_dropped (certificate_of c.args.first c.args.steps.now) c.args.first first p in
    let until = c.loop-place.invariant.until in
    omega arith

pub count_at-requires-clause-few : goal.count_at-requires-clause-few
count_at-requires-clause-few c = λ k h.
    let first = first_of c.args.first c.args.steps.now in
    let p = c.loop-place.place in
    let value : c.deref_mut.result.now ≡ c.loop-place.dropped.items = c.deref_mut.ensures.value in
    let long : length c.deref_mut.result.now ≡ length c.args.steps.now = ap length value
    ∙ c.loop-place.invariant.size in
    let each = c.loop-place.invariant.each k (omega arith) in
    let same : slice_index_or c.deref_mut.result.now k 0 ≡ slice_index_or c.loop-place.dropped.items
    k 0 = ap (λ (l : _). slice_index_or l k 0) value in
    let few = few_at (certificate_of c.args.first c.args.steps.now) c.args.first first p k in
    let inside = c.loop-place-test.true in
    let most = c.requires in
    omega arith

pub loop-place-preserved : goal.loop-place-preserved
loop-place-preserved c =
    let cert = certificate_of c.args.first c.args.steps.now in
    let m = c.args.first in
    let p = c.loop-place.place in
    let ss = c.args.steps.now in
    let inv = c.loop-place.invariant in
    let inside = c.loop-place-test.true in
    let first = first_of c.args.first c.args.steps.now in
    let read : c.index.result.now ≡ slice_index_or c.loop-place.dropped.items p 0 =
    get_or_read c.loop-place.dropped.items _ _ (let size = inv.size in omega arith)
    c.index.ensures 0 in
    let now = held_now cert m first p c.loop-place.held c.index.result.now inv.until (read ∙ inv.each p inside) in
    let drop = drop_here cert m first p no_statement ss refl inside c.index-steps-place.result
    c.index-steps-place.is ∙ sym c.dropped_after.ensures in
    let until = now ∙ until_then cert m first p in
    let most = c.max-most.ensures ∙ ap₂ max now inv.most_is ∙ most_then cert m first p in
    elim c.match-dropped_after.branch [
      | in-Some w ↦
          let value : w.deref_mut.result.now ≡ c.loop-place.dropped.items = w.deref_mut.ensures.value in
          let same : length w.count_at.new.counts ≡ length w.deref_mut.result.now = w.count_at.auto.counts in
          let size : length w.count_at.new.counts ≡ vec_len c.loop-place.dropped = same ∙ w.deref_mut.ensures.len in
          let written : c.match-dropped_after.dropped.items ≡ w.count_at.new.counts =
          ap (λ (v : Vec ℕ Global). v.items) w.dropped-is
          ∙ with_items_is c.loop-place.dropped w.count_at.new.counts size in
          rw written (record {
            until = until;
            most_is = most;
            size = same ∙ ap length value ∙ inv.size;
            each = λ k h.
                each_some cert m first p k w.in-Some.at
                (slice_index_or c.loop-place.dropped.items k 0)
                (slice_index_or w.count_at.new.counts k 0) (inv.each k h) (drop ∙ w.in-Some.is)
                (rw value at (w.count_at.ensures k (let long = ap length value in let all = inv.size in omega arith)));
          })
      | in_default w ↦
          let written : c.match-dropped_after.dropped.items ≡ c.loop-place.dropped.items =
          ap (λ (v : Vec ℕ Global). v.items) w.dropped-is in
          rw written (record {
            until = until;
            most_is = most;
            size = inv.size;
            each = λ k h. each_none cert m first p k (slice_index_or c.loop-place.dropped.items k 0)
                (inv.each k h) (drop ∙ w.in_default.is);
          })
    ]

pub returns : goal.returns
returns c = λ view x stand.
    let first = first_of c.args.first c.args.steps.now in
    let size = length-map c.args.steps.now (step_of no_statement) in
    let outside = c.loop-place-test.false in
    let end = c.loop-place.auto.place-end in
    c.loop-place.invariant.most_is
    ∙ peak_whole (certificate_of c.args.first c.args.steps.now) c.args.first c.loop-place.place
    first (omega arith)
    ∙ peak_of c.args.first c.args.steps.now view x stand
