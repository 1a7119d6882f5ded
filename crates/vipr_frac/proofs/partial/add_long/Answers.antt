use Rattle.std.proofs.Common.{rules, refl}
use Rattle.vipr_frac.proofs.Views.{as-is}
use Rattle.vipr_frac.proofs.partial.add_long.Goals as goal

pub returns-then-add_word_product : goal.returns-then-add_word_product
returns-then-add_word_product c =
    let left = as-is c.args.p c.requires.left.numer_bounded in
    let right = as-is c.args.r c.requires.right.numer_bounded in
    let product = rw (left, right) at c.add_word_product.ensures.product_fits in
    let sum = rw (left, right) at c.add_word_product.ensures.sum_fits in
    record {
      fits = (λ _. (product c.if-add_word_product.true, sum c.if-add_word_product.true), λ _. refl);
      sum = search rules;
      kept = search rules;
    }

pub returns : goal.returns
returns c =
    let kept = c.add_word_product.ensures.kept c.if-add_word_product.false in
    rw (
      as-is c.args.p c.requires.left.numer_bounded,
      as-is c.args.r c.requires.right.numer_bounded,
      kept,
    ) at c.add_exact.ensures
