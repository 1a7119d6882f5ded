use Rattle.std.proofs.Common.{◌∷◌, map, sym, ◌∙◌}
use Rattle.std.proofs.lemmas.List.Folds.{flat_map-map}
use Rattle.vipr_write.specs.Canonical.{pair_words, words_after_spaces}
use Rattle.vipr_write.proofs.{Appended.in_parts}
use Rattle.vipr_bytes.proofs.Laws.{puts_all, puts_same}
use Rattle.vipr_write.proofs.words.put_pairs.Goals as goal

pub returns : goal.returns
returns g c =
    puts_same (sym (in_parts (λ w. 32 ∷ w) pair_words (map g.E.SumEntry.pair c.args.pairs.now)
    ∙ flat_map-map (λ p. words_after_spaces (pair_words p)) g.E.SumEntry.pair c.args.pairs.now))
    (puts_all (λ p. words_after_spaces (pair_words (g.E.SumEntry.pair p))) c.args.pairs.now
    c.loop-pair.pair-index c.loop-pair-test.false c.loop-pair.invariant)
