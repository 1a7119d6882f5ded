use Rattle.std.proofs.Common.{◌≡◌, ◌-◌, true, false, vec_len, length, arith, ap, ◌∙◌, subst}
use Rattle.std.proofs.lemmas.List.{with_items_is}
use Rattle.vipr_spec.specs.{Certificate.References, Tightened.include}
use Rattle.vipr_tighten.specs.Passes.{MarksAlso}
use Rattle.vipr_tighten.proofs.Marking.{next_marked, next_unmarked, mark_read, this_turn}
use Rattle.vipr_tighten.proofs.needed.needed.Goals as goal

pub loop-i-preserved : goal.loop-i-preserved
loop-i-preserved g c =
    let a = c.loop-i.auto.i in
    let b = c.loop-i-test.true in (
      c.loop-i.invariant.0,
      λ view.
          let turn = this_turn (g.D.Tightenable.derived view) c.args.goal c.args.first
          c.args.steps.now c.loop-i.i c.loop-i.marks.items (omega arith) (omega arith)
          (c.loop-i.invariant.1 view) in
          next_unmarked (g.D.Tightenable.derived view) c.args.goal c.args.first c.args.steps.now
          (c.loop-i.i - 1) turn.within c.loop-i.marks.items turn.so_far
          (mark_read c.loop-i.marks.items (c.loop-i.i - 1) c.index.result.now false turn.marked
          c.index.ensures c.if-index.false),
    )

pub loop-i-preserved-then-index : goal.loop-i-preserved-then-index
loop-i-preserved-then-index g c =
    let a = c.loop-i.auto.i in
    let b = c.loop-i-test.true in
    let value : c.deref_mut-then-index.result.now ≡ c.loop-i.marks.items = c.deref_mut-then-index.ensures.value in
    let same : length c.mark_references.new.marks ≡ length c.deref_mut-then-index.result.now =
    c.mark_references.auto.marks in
    let long : length c.mark_references.new.marks ≡ vec_len c.loop-i.marks = same
    ∙ c.deref_mut-then-index.ensures.len in
    let size = same ∙ ap length value in
    rw (with_items_is c.loop-i.marks c.mark_references.new.marks long) (
      size ∙ c.loop-i.invariant.0,
      λ view.
          let turn = this_turn (g.D.Tightenable.derived view) c.args.goal c.args.first
          c.args.steps.now c.loop-i.i c.loop-i.marks.items (omega arith) (omega arith)
          (c.loop-i.invariant.1 view) in
          next_marked (g.D.Tightenable.derived view) c.args.goal c.args.first c.args.steps.now
          (c.loop-i.i - 1) turn.within c.loop-i.marks.items turn.so_far c.index-steps-i.result
          c.index-steps-i.is
          c.mark_references.new.marks size
          (mark_read c.loop-i.marks.items (c.loop-i.i - 1) c.index.result.now true turn.marked
          c.index.ensures c.if-index.true)
          (rw value at
          (subst (λ (r : References). MarksAlso c.args.first
          (include r) c.deref_mut-then-index.result.now c.mark_references.new.marks)
          (c.references.ensures view) c.mark_references.ensures)),
    )
