use Rattle.std.proofs.Common.{◌≡◌, ◌∙◌, ap, sym, length, arith}
use Rattle.std.specs.FinSet.{union}
use Rattle.vipr_table.specs.Sets.{union_of_all}
use Rattle.vipr_table.proofs.UnionsLemmas.{top_joined, none_union, no_sets}
use Rattle.vipr_table.proofs.assumptions.union.with_below.Goals as goal

pub loop-top-preserved : goal.loop-top-preserved
loop-top-preserved c =
    ap (union (union_of_all c.pop.new.self.items)) (c.put.ensures ∙ c.in-Ok.ensures)
    ∙ sym (top_joined c.pop.new.self.items c.in-Some.top c.loop-top.all)
    ∙ ap (λ ss. union (union_of_all ss) c.loop-top.all) (sym c.in-Some.ensures.items)
    ∙ c.loop-top.invariant

pub returns : goal.returns
returns c =
    let none : length c.loop-top.below.items ≡ 0 = omega (arith, c.loop-top.below.ok.0, c.in_default.ensures.cases.0) in
    sym (none_union c.loop-top.all)
    ∙ ap (λ ss. union (union_of_all ss) c.loop-top.all) (sym (no_sets c.loop-top.below.items none))
    ∙ c.loop-top.invariant
