use Rattle.std.proofs.Common.{◌≡◌, ◌∙◌, ap, ap₂, sym}
use Rattle.std.specs.FinSet.{union, remove}
use Rattle.vipr_table.specs.Sets.{union_of_all}
use Rattle.vipr_table.proofs.ListsLemmas.{more_united, remove_union}
use Rattle.vipr_table.proofs.{SetLemmas.remove_none, SetLemmas.union_none, UnionsLemmas.one_below}
use Rattle.vipr_table.proofs.assumptions.pages.pages_without.Goals.{then-not-is_empty+in_ok-push}
use Rattle.vipr_table.proofs.assumptions.pages.pages_without.Goals.{else-not-is_empty}
use Rattle.vipr_table.proofs.assumptions.pages.pages_without.Goals as goal

pub loop-page-init : goal.loop-page-init
loop-page-init c = ap union_of_all c.in_ok-rest.ensures.items ∙ remove_none c.args.index

pub loop-page-preserved : goal.loop-page-preserved
loop-page-preserved c =
    let k = c.args.index in
    let so_far = c.loop-page.rest.items in
    let left = c.in_ok-left.left in
    let step : union_of_all c.if-not-is_empty.rest.items ≡ union (union_of_all so_far) left =
    elim c.if-not-is_empty.branch [
      | then-not-is_empty+in_ok-push w ↦ ap (λ v. union_of_all v.items) w.rest-is
          ∙ ap union_of_all w.in_ok-push.ensures.items ∙ one_below so_far left
      | else-not-is_empty w ↦ ap (λ v. union_of_all v.items) w.rest-is ∙ union_none (union_of_all so_far)
          ∙ ap (union (union_of_all so_far)) (sym (sym c.as_ref.ensures ∙ c.is_empty.ensures.0 w.if-not-is_empty.false))
    ] in
    step
    ∙ ap₂ union c.loop-page.invariant c.in_ok-left.ensures
    ∙ sym (remove_union _ c.page-item.result k)
    ∙ ap (λ s. remove s k)
    (sym (more_united c.args.pages.now c.loop-page.page-index c.page-item.result
    c.loop-page-test.true c.page-item.is))
