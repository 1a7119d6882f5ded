use Rattle.std.proofs.Common.{◌∙◌, ◌<◌, length, take, ap, ap₂, sym, arith}
use Rattle.std.specs.FinSet.{empty, union}
use Rattle.vipr_table.specs.Sets.{union_of_all}
use Rattle.vipr_table.proofs.ListsLemmas.{more_united}
use Rattle.vipr_table.proofs.PagesLemmas.{joined_left, joined_right, joined_both, joined_all, behind}
use Rattle.vipr_table.proofs.{SetLemmas.union_none, UnionsLemmas.one_below}
use Rattle.vipr_table.proofs.assumptions.pages.united.Goals as goal

pub loop-i-init : goal.loop-i-init
loop-i-init c = record {
  i_within = omega arith;
  j_within = omega arith;
  so_far = ap union_of_all c.in_ok-all.ensures.items ∙ union_none empty;
}

pub loop-i-preserved-then-range-other : goal.loop-i-preserved-then-range-other
loop-i-preserved-then-range-other c =
    let i = c.loop-i.i in
    let all = union_of_all c.loop-i.all.items in
    let theirs = union_of_all (take c.loop-i.j c.args.others.now) in
    let item = c.index-pages-i-then-range-other in
    let lt : i < length c.args.pages.now = c.loop-i-test.true in
    record {
      i_within = omega (arith, lt);
      j_within = c.loop-i.invariant.j_within;
      so_far =
          ap union_of_all c.in_ok-push.ensures.items ∙ one_below c.loop-i.all.items c.in_ok-clone.field-0
          ∙ ap (union all) c.in_ok-clone.ensures.cases
          ∙ joined_left all (union_of_all (take i c.args.pages.now)) theirs item.result c.loop-i.invariant.so_far
          ∙ ap (λ s. union s theirs) (sym (more_united c.args.pages.now i item.result lt item.is));
    }

pub loop-i-preserved-then-other-range : goal.loop-i-preserved-then-other-range
loop-i-preserved-then-other-range c =
    let j = c.loop-i.j in
    let all = union_of_all c.loop-i.all.items in
    let ours = union_of_all (take c.loop-i.i c.args.pages.now) in
    let item = c.index-others-j-then-other-range in
    let lt : j < length c.args.others.now = c.if-j-others.true in
    record {
      i_within = c.loop-i.invariant.i_within;
      j_within = omega (arith, lt);
      so_far =
          ap union_of_all c.in_ok-push-2.ensures.items ∙ one_below c.loop-i.all.items c.in_ok-clone-2.field-0
          ∙ ap (union all) c.in_ok-clone-2.ensures.cases
          ∙ joined_right all ours (union_of_all (take j c.args.others.now)) item.result c.loop-i.invariant.so_far
          ∙ ap (union ours) (sym (more_united c.args.others.now j item.result lt item.is));
    }

pub loop-i-preserved : goal.loop-i-preserved
loop-i-preserved c =
    let i = c.loop-i.i in
    let j = c.loop-i.j in
    let all = union_of_all c.loop-i.all.items in
    let one = c.index-pages-i-else-other-range in
    let other = c.index-others-j-else-other-range in
    let lt : i < length c.args.pages.now = c.loop-i-test.true in
    let lt' : j < length c.args.others.now = c.if-j-others.true in
    record {
      i_within = omega (arith, lt);
      j_within = omega (arith, lt');
      so_far =
          ap union_of_all c.in_ok-push-3.ensures.items ∙ one_below c.loop-i.all.items c.in_ok-union_of.field-0
          ∙ ap (union all) c.in_ok-union_of.ensures
          ∙ joined_both all (union_of_all (take i c.args.pages.now)) (union_of_all (take j c.args.others.now))
          one.result other.result c.loop-i.invariant.so_far
          ∙ ap₂ union (sym (more_united c.args.pages.now i one.result lt one.is))
          (sym (more_united c.args.others.now j other.result lt' other.is));
    }

pub returns : goal.returns
returns c =
    joined_all c.args.pages.now c.args.others.now c.loop-i.i c.loop-i.j _ _ _ c.loop-i.invariant.so_far
    (c.in_ok-add_pages.ensures
    ∙ ap (λ l. union (union_of_all c.loop-i.all.items) (union_of_all l)) (behind c.loop-i.i c.args.pages.now))
    (c.in_ok-add_pages-2.ensures
    ∙ ap (λ l. union (union_of_all c.add_pages.new.pages.items) (union_of_all l)) (behind c.loop-i.j c.args.others.now))
