use Rattle.std.proofs.Common.{◌∙◌, ap, sym}
use Rattle.std.specs.FinSet.{union, from_list}
use Rattle.vipr_table.specs.Sets.{union_of_all}
use Rattle.vipr_table.proofs.UnionsLemmas.{top_joined}
use Rattle.vipr_table.proofs.assumptions.union.Union.settle.Goals as goal

pub loop-top-preserved : goal.loop-top-preserved
loop-top-preserved c = record {
  union =
      ap (λ s. union s (from_list c.loop-top.self.few.items))
      (ap (union (union_of_all c.pop.new.self.items)) (c.put.ensures ∙ rw c.in_ok-joined.was at c.union-joined.ensures)
      ∙ sym (top_joined c.pop.new.self.items c.in-Some.top c.loop-top.self.last)
      ∙ ap (λ ss. union (union_of_all ss) c.loop-top.self.last) (sym c.in-Some.ensures.items))
      ∙ c.loop-top.invariant.union;
  noted = c.loop-top.invariant.noted;
}
