use Rattle.std.proofs.Common.{◌^◌, ◌<◌, arith}
use Rattle.vipr_write.specs.{Canonical.certificate_lines, Weight.weight}
use Rattle.vipr_write.proofs.Weighing.{text_short}
use Rattle.vipr_write.proofs.countable.is_countable.Goals as goal

pub returns-clause-bytes : goal.returns-clause-bytes
returns-clause-bytes c = λ t form.
    let few : weight (certificate_lines c.args.certificate.now) < 2 ^ 48 =
    grind (arith, t, c.word_count-words.ensures.count) in
    text_short form c.args.certificate.now c.word_count-words.ensures.writes few
