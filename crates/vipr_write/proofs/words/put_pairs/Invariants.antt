use Rattle.std.proofs.Common.{take}
use Rattle.std.specs.List.{flat_map}
use Rattle.vipr_write.specs.Canonical.{pair_words, words_after_spaces}
use Rattle.vipr_bytes.specs.Puts.{Puts}
use Rattle.vipr_write.proofs.words.put_pairs.Given as goal

abbrev pub invariant-loop-pair : goal.invariant-loop-pair
invariant-loop-pair g l = Puts g.O.Out.carries l.initial.out l.out
    (flat_map (λ p. words_after_spaces (pair_words (g.E.SumEntry.pair p)))
    (take l.pair-index l.pairs))
