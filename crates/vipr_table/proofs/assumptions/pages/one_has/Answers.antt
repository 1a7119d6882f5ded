use Rattle.std.proofs.Common.{◌∙◌, ◌||◌, ap, ap₂, sym}
use Rattle.std.specs.{FinSet.contains, FinSet.contains-empty, Ordering.nat_cmp}
use Rattle.vipr_table.proofs.ListsLemmas.{within_all, more_united}
use Rattle.vipr_table.proofs.UnionsLemmas.{has_of}
use Rattle.vipr_table.proofs.assumptions.pages.one_has.Goals as goal

pub loop-page-init : goal.loop-page-init
loop-page-init c = contains-empty nat_cmp c.args.index

pub returns-then-contains : goal.returns-then-contains
returns-then-contains c =
    let here = ap (λ s. contains s c.args.index) (sym c.as_ref.ensures) ∙ sym c.contains.ensures ∙ c.if-contains.true in
    sym (within_all c.args.pages.now c.loop-page.page-index c.args.index c.page-item.result
    c.loop-page-test.true c.page-item.is here)

pub loop-page-preserved : goal.loop-page-preserved
loop-page-preserved c =
    let absent = ap (λ s. contains s c.args.index) (sym c.as_ref.ensures) ∙ sym c.contains.ensures
    ∙ c.if-contains.false in
    ap (λ s. contains s c.args.index)
    (more_united c.args.pages.now c.loop-page.page-index c.page-item.result
    c.loop-page-test.true c.page-item.is)
    ∙ has_of _ c.page-item.result c.args.index
    ∙ ap₂ (λ a b. a || b) c.loop-page.invariant absent
