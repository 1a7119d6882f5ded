use Rattle.std.proofs.Common.{◌∙◌, ◌*◌, ◌%◌, ◌/◌, ◌-◌, ◌^◌, ◌<◌, ◌≤◌, ℕ, length, set, ap, arith, bit_or, get_or}
use Rattle.std.proofs.lemmas.List.{length-set, get_or_read}
use Rattle.vipr_table.specs.Bits.{page_set}
use Rattle.vipr_table.proofs.BitsLemmas.{no_word, one_put_more}
use Rattle.vipr_table.proofs.assumptions.page.words_of.Goals as goal

pub loop-item-init : goal.loop-item-init
loop-item-init c =
    let none = ap length c.new-words.ensures.items in
    record {
      within = omega (arith, none, c.requires.within);
      so_far = ap (page_set c.args.first) c.new-words.ensures.items ∙ no_word c.args.first;
    }

pub loop-item-preserved : goal.loop-item-preserved
loop-item-preserved c =
    let f = c.args.first in
    let items = c.args.items.now in
    let i = c.loop-item.item-index in
    let words = c.lengthen.new.words.items in
    let n : ℕ = get_or items i 0 in
    let least : f ≤ n / 64 = c.requires.least i 0 c.loop-item-test.true in
    let fits = c.type_inv.items i in
    let len = c.in_ok-lengthen.ensures.len in
    let within : n / 64 - f < length words = omega (arith, len) in
    let read = get_or_read words (n / 64 - f) _ within c.index_mut.ensures.value 0 in
    record {
      within = omega (arith, length-set {A = ℕ}, len, fits, least, c.loop-item.invariant.within);
      so_far =
          ap (λ v. page_set f (set words (n / 64 - f) (bit_or v (1 * 2 ^ (n % 64) % 2 ^ 64)))) read
          ∙ one_put_more f items c.loop-item.words.items words i c.loop-item-test.true
          c.loop-item.invariant.so_far c.in_ok-lengthen.ensures.same least within;
    }
