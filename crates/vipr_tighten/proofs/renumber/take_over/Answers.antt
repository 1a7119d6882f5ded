use Rattle.std.proofs.Common.{arith, ◌≡◌, ◌+◌, ◌++◌, None, map, take, slice_set, sym, ◌∙◌, subst}
use Rattle.vipr_spec.specs.{Tightened.with_new_indices}
use Rattle.vipr_tighten.specs.Passes.{index_by, TakesOver}
use Rattle.vipr_tighten.proofs.Moving.{after_left, taken_over}
use Rattle.vipr_tighten.proofs.renumber.take_over.Goals as goal

pub returns-clause-left : goal.returns-clause-left
returns-clause-left g c = grind (arith, after_left)

pub returns-clause-kept : goal.returns-clause-kept
returns-clause-kept g c = λ view x e.
    let derived = g.D.Tightenable.derived view in
    let first = c.args.first in
    let table = c.args.table.now in
    let old = c.args.steps.now in
    let kept = c.args.kept in
    let parts = c.split_at_mut-front.ensures in
    let changed = c.set_last_by.new.kept in
    let moved = c.set_last.new.self in
    let was = c.index-back-0.result in
    let is_was = rw parts.back at c.index-back-0.is in
    let moved_is : derived moved ≡ record (with_new_indices (index_by first table) (derived was)) { last = None } =
    grind (arith, c.index-back-0.is, c.set_last.ensures, c.renumber.ensures) in
    let referred = rw parts.front at (c.set_last_by.ensures view) in
    subst (λ l. TakesOver (with_new_indices (index_by first table) (derived x)) (first + kept) first
    (map derived (take kept old))
    (map derived (take (kept + 1) (changed ++ slice_set l 0 moved)))) (sym parts.back)
    (taken_over derived first table old c.swap.new.self kept c.args.place c.requires.behind
    c.requires.there c.swap.ensures.len c.swap.ensures.by_index was moved is_was moved_is
    changed (c.set_last_by.auto.kept ∙ parts.front_len) referred x e)
