use Rattle.std.proofs.Common.{◌∙◌, ap, ap₂, sym, arith, bit_or}
use Rattle.vipr_table.specs.Bits.{page_set}
use Rattle.vipr_table.proofs.BitsLemmas.{each_more, page_union, united_words}
use Rattle.vipr_table.proofs.assumptions.page.united.Goals as goal

pub loop-number-preserved : goal.loop-number-preserved
loop-number-preserved c = record {
  count = omega (arith, c.in_ok-push.ensures.len);
  each = each_more c.min-start.result c.args.first c.args.other c.loop-number.number _
      c.loop-number.all.items c.push.new.self.items c.args.words.now c.args.others.now
      c.in_ok-push.ensures.items c.loop-number.invariant.count
      (ap₂ bit_or c.word_of.ensures c.word_of-in-loop-number.ensures) c.loop-number.invariant.each;
}

pub returns-clause-set : goal.returns-clause-set
returns-clause-set c =
    let start = c.min-start.ensures in
    let end = c.max-end.ensures in
    ap (λ f. page_set f c.loop-number.all.items) (sym start)
    ∙ page_union c.min-start.result c.args.first c.args.other c.loop-number.all.items c.args.words.now c.args.others.now
    (united_words c.min-start.result c.max-end.result c.args.first c.args.other c.loop-number.all.items
    c.args.words.now c.args.others.now (omega (arith, start)) (omega (arith, start)) (omega (arith, end))
    (omega (arith, end)) (omega (arith, start, end)) c.loop-number.invariant.each)
