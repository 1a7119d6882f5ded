use Rattle.std.proofs.Common.{◌≡◌, ◌<◌, ◌^◌, true, length, take, ◌/◌, refl, sym, ◌∙◌, arith}
use Rattle.std.proofs.lemmas.List.{length-take-le}
use Rattle.vipr_rules.specs.Profile.{profile_of}
use Rattle.vipr_command.specs.Answer.{input_of}
use Rattle.vipr_command.proofs.AnswerLemmas.{checked_of, some_answer}
use Rattle.vipr_command.proofs.in_memory.ReadText.is_enough.Goals as goal

pub returns-then-not-job-clause-refused : goal.returns-then-not-job-clause-refused
returns-then-not-job-clause-refused g c = λ e.
    let text = c.args.self.now.bytes.items in
    let front = take (length text / 8) text in
    let P = profile_of c.args.job.now.profile in
    let same : c.new.result ≡ front =
    grind (
      arith,
      c.new.ensures,
      c.as_slice.ensures.value,
      c.as_slice.ensures.len,
      c.len.ensures,
    ) in
    let size : length front ≡ length text / 8 = length-take-le (length text / 8) text (omega arith) in
    let short : length front < 2 ^ 64 =
    grind (
      arith,
      size,
      c.as_slice.ensures.value,
      c.as_slice.ensures.len,
      c.len.ensures,
      c.len.type_inv,
    ) in
    some_answer P (input_of front true) c.check_in.result short
    (checked_of _ _ _ _ same refl P c.check_in.result c.check_in.ensures)
    (sym c.is_ok.ensures.value ∙ e)
