use Rattle.std.proofs.Common.{◌∙◌, ap₂, sym}
use Rattle.std.specs.FinSet.{empty, union}
use Rattle.vipr_table.proofs.ListsLemmas.{one_of_none, more_united}
use Rattle.vipr_table.proofs.SetLemmas.{union_none}
use Rattle.vipr_table.proofs.assumptions.pages.are_empty.Goals as goal

pub returns-then-not-is_empty : goal.returns-then-not-is_empty
returns-then-not-is_empty c = (
  λ h. absurd (let e = h in cc),
  λ none. absurd (
      let none_here = one_of_none c.args.pages.now c.loop-page.page-index c.page-item.result
      c.loop-page-test.true c.page-item.is none in
      let e = c.is_empty.ensures.1 (c.as_ref.ensures ∙ none_here) in
      let t = c.if-not-is_empty.true in
      cc),
)

pub loop-page-preserved : goal.loop-page-preserved
loop-page-preserved c =
    more_united c.args.pages.now c.loop-page.page-index c.page-item.result c.loop-page-test.true c.page-item.is
    ∙ ap₂ union c.loop-page.invariant (sym c.as_ref.ensures ∙ c.is_empty.ensures.0 c.if-not-is_empty.false)
    ∙ sym (union_none empty)
