use Rattle.std.proofs.Common.{◌∙◌, ◌*◌, ◌%◌, ◌/◌, ◌-◌, ◌^◌, set, ap, arith, w64}
use Rattle.std.proofs.lemmas.List.{get_or_read}
use Rattle.std.specs.{Int.bit_not, Prelude.bit_and}
use Rattle.vipr_table.specs.Bits.{page_set}
use Rattle.vipr_table.proofs.BitsLemmas.{absent_before, absent_past, bit_cleared}
use Rattle.vipr_table.proofs.SetLemmas.{remove_absent}
use Rattle.vipr_table.proofs.assumptions.page.clear.Goals as goal

pub returns-then-number-first-clause-set : goal.returns-then-number-first-clause-set
returns-then-number-first-clause-set c =
    let absent = absent_before c.args.first c.args.index c.args.words.now.items c.if-number-first.true in
    remove_absent _ c.args.index absent

pub returns-then-place-len-clause-set : goal.returns-then-place-len-clause-set
returns-then-place-len-clause-set c =
    let f = c.args.first in
    let i = c.args.index in
    let words = c.args.words.now.items in
    let read = get_or_read words (i / 64 - f) _ (omega arith) c.index_mut.ensures.value 0 in
    ap (λ v. page_set f (set words (i / 64 - f) (bit_and v (bit_not w64 (1 * 2 ^ (i % 64) % 2 ^ 64))))) read
    ∙ bit_cleared f i words (omega arith) (omega arith)

pub returns-else-place-len-clause-set : goal.returns-else-place-len-clause-set
returns-else-place-len-clause-set c =
    let absent = absent_past c.args.first c.args.index c.args.words.now.items (omega arith) in
    remove_absent _ c.args.index absent
