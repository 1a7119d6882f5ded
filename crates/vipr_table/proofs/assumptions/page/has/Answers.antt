use Rattle.std.proofs.Common.{◌%◌, ◌∙◌, ap, sym, nat_eq}
use Rattle.std.proofs.lemmas.Nat.Bits.{shr_and_one}
use Rattle.std.specs.Int.{bit_at}
use Rattle.vipr_table.proofs.BitsLemmas.{contains-page_set}
use Rattle.vipr_table.proofs.assumptions.page.has.Goals as goal

pub returns : goal.returns
returns c =
    ap (λ n. nat_eq n 1) (shr_and_one c.word_of.result (c.args.index % 64))
    ∙ ap (λ w. nat_eq (bit_at w (c.args.index % 64)) 1) c.word_of.ensures
    ∙ sym (contains-page_set c.args.first c.args.words.now c.args.index)
