use Rattle.std.proofs.Common.{◌<◌, get_or, sym, refl, arith}
use Rattle.std.proofs.lemmas.Bool.{true≢false}
use Rattle.vipr_table.proofs.BitsLemmas.{zero_words, some_word}
use Rattle.vipr_table.proofs.assumptions.page.are_zero.Goals as goal

pub returns-then-word-ne0 : goal.returns-then-word-ne0
returns-then-word-ne0 c =
    let i = c.loop-word.word-index in
    let words = c.args.words.now in
    let more : 0 < get_or words i 0 = omega arith in
    let fits = c.type_inv.words i in
    (λ h. absurd (true≢false (sym h)), λ none. absurd (some_word c.args.first i words more (omega (arith, fits)) none))

pub returns : goal.returns
returns c = (
  λ _. zero_words c.args.first c.args.words.now (λ k lt. c.loop-word.invariant k (omega (arith, lt))),
  λ _. refl,
)
