use Rattle.std.proofs.Common.{◌∙◌, ap}
use Rattle.std.specs.FinSet.{union}
use Rattle.vipr_table.specs.Sets.{union_of_all}
use Rattle.vipr_table.proofs.{ListsLemmas.more_added, SetLemmas.union_none, UnionsLemmas.one_below}
use Rattle.vipr_table.proofs.assumptions.pages.add_pages.Goals as goal

pub loop-page-init : goal.loop-page-init
loop-page-init c = union_none _

pub loop-page-preserved : goal.loop-page-preserved
loop-page-preserved c =
    let now = c.loop-page.pages.items in
    more_added (union_of_all c.args.pages.now.items) (union_of_all now) _ c.args.more.now
    c.loop-page.page-index c.page-item.result c.loop-page-test.true c.page-item.is c.loop-page.invariant
    (ap union_of_all c.in_ok-push.ensures.items ∙ one_below now c.in_ok-clone.field-0
    ∙ ap (union (union_of_all now)) c.in_ok-clone.ensures.cases)
