use Rattle.std.proofs.Common.{◌∷◌, [], sym, ap, ◌∙◌}
use Rattle.vipr_cert.specs.Items.{derivation_of}
use Rattle.vipr_write.specs.Canonical.{reference_words, words_after_spaces}
use Rattle.vipr_write.proofs.Parts.{derivation_parts_in}
use Rattle.vipr_bytes.proofs.Laws.{puts_then, puts_same}
use Rattle.vipr_write.proofs.lines.put_derivation.Goals as goal

pub returns : goal.returns
returns g c =
    let reason =
    puts_then (puts_same (ap (λ w. 32 ∷ w) (c.as_bytes.ensures.value ∙ c.word.ensures.word)) c.put_word-2.ensures)
    (puts_same (ap (λ rs. words_after_spaces (reference_words rs)) c.references.ensures) c.put_references.ensures) in
    puts_same (sym (derivation_parts_in c.args.form c.args.objective.now [] (derivation_of c.args.derivation.now)))
    (puts_then (puts_then
    (puts_then (puts_then (puts_then c.put_stated.ensures c.put_word.ensures) reason)
    c.put_word-3.ensures) c.put_last.ensures) c.push.ensures)
