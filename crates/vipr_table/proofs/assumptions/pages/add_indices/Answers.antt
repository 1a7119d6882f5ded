use Rattle.std.proofs.Common.{◌∙◌, ap}
use Rattle.std.specs.FinSet.{union, from_list}
use Rattle.vipr_table.proofs.ListsLemmas.{more_added}
use Rattle.vipr_table.proofs.SetLemmas.{union_none}
use Rattle.vipr_table.proofs.assumptions.pages.add_indices.Goals as goal

pub loop-page-init : goal.loop-page-init
loop-page-init c = union_none _

pub loop-page-preserved : goal.loop-page-preserved
loop-page-preserved c =
    more_added (from_list c.args.indices.now.items) (from_list c.loop-page.indices.items) _ c.args.pages.now
    c.loop-page.page-index c.page-item.result c.loop-page-test.true c.page-item.is c.loop-page.invariant
    (c.in_ok-add_to.ensures ∙ ap (union (from_list c.loop-page.indices.items)) c.as_ref.ensures)
