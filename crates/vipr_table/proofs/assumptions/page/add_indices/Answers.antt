use Rattle.std.proofs.Common.{◌∙◌, ap, refl, sym, arith}
use Rattle.std.specs.FinSet.{from_list, union}
use Rattle.vipr_table.proofs.BitsLemmas.{more_words, no_word}
use Rattle.vipr_table.proofs.SetLemmas.{union_none}
use Rattle.vipr_table.proofs.assumptions.page.add_indices.Goals as goal

pub loop-place-init : goal.loop-place-init
loop-place-init c =
    let old = from_list c.args.indices.now.items in
    union_none old ∙ ap (union old) (sym (no_word c.args.first))

pub loop-place-preserved : goal.loop-place-preserved
loop-place-preserved c =
    more_words c.args.first c.loop-place.place _ c.args.words.now _ _ _ (omega arith) refl
    c.loop-place.invariant c.in_ok-add_ones.ensures
