use Rattle.std.proofs.Common.{◌≡◌, ◌∙◌, ap, sym, length, arith}
use Rattle.std.proofs.{lemmas.Bool.Decides.nat_tests, lemmas.Result.IfOk-weaker}
use Rattle.std.specs.FinSet.{union, from_list}
use Rattle.vipr_table.specs.Sets.{union_of_all}
use Rattle.vipr_table.proofs.UnionsLemmas.{union_assoc, none_union, no_few, no_sets}
use Rattle.vipr_table.proofs.assumptions.union.Union.finish.Goals as goal

pub returns : goal.returns
returns c =
    let joined =
    ap (union (union_of_all c.args.self.below.items)) c.in_ok-with_few.ensures
    ∙ sym (union_assoc (union_of_all c.args.self.below.items) c.args.self.last (from_list c.args.self.few.items)) in
    IfOk-weaker c.with_below.result _ _ (λ s e. e ∙ joined) c.with_below.ensures

-- nothing waits
pub returns-then-is_empty-2 : goal.returns-then-is_empty-2
returns-then-is_empty-2 c =
    let u = c.args.self in
    let no_below : length u.below.items ≡ 0 = let e = c.is_empty.ensures in
    let t = c.if-is_empty.true in
    grind (arith, nat_tests) in
    let no_more : length u.few.items ≡ 0 = let e = c.is_empty-then-is_empty.ensures in
    let t = c.if-is_empty-2.true in
    grind (arith, nat_tests) in
    sym (none_union u.last) ∙ ap (λ ss. union (union_of_all ss) u.last) (sym (no_sets u.below.items no_below))
    ∙ no_few (union (union_of_all u.below.items) u.last) u.few.items no_more
