use Rattle.std.proofs.{Common.rules, Common.refl, Common.FitsSigned, lemmas.Int.to_z-of_z}
use Rattle.std.specs.Int.{w64}
use Rattle.vipr_frac.proofs.Views.{as-is}
use Rattle.vipr_frac.proofs.partial.add_word_product.Goals as goal

pub returns-in-Some : goal.returns-in-Some
returns-in-Some c =
    let words = rw (
      as-is c.args.p c.requires.left.numer_bounded,
      as-is c.args.r c.requires.right.numer_bounded,
    ) at c.in-Some.ensures in
    let word : FitsSigned w64 c.in-Some.numer = search rules in
    let h = rw (to_z-of_z w64 c.in-Some.numer word, words.product) at c.add_words.ensures in
    record { product_fits = λ _. words.fits refl; sum_fits = h.fits; sum = h.sum; kept = h.kept }
