use Rattle.std.proofs.Common.{ap}
use Rattle.vipr_write.specs.Canonical.{reason_words, reference_words, last_word, words_after_spaces}
use Rattle.vipr_write.specs.{StepReasons.kept_reason_of, Steps.own_bytes, Steps.row_bytes}
use Rattle.vipr_bytes.proofs.Laws.{puts_then, puts_same}
use Rattle.vipr_write.proofs.Kept.{step_parts}
use Rattle.vipr_write.proofs.steps.put_step.Goals as goal

pub returns : goal.returns
returns g c =
    let t = c.args.statements.now in
    let s = c.args.step.now in
    let own = puts_same c.own_bytes.ensures c.put.ensures in
    let row = puts_same c.row_bytes.ensures c.put-2.ensures in
    let reason =
    puts_then c.put_rule.ensures
    (puts_same (ap (λ rs. words_after_spaces (reference_words rs)) c.references.ensures)
    c.put_step_references.ensures) in
    puts_same (step_parts (own_bytes t s.stated) (row_bytes t.spelled.items s.stated)
    (words_after_spaces (reason_words (kept_reason_of s.reason))) (last_word s.last))
    (puts_then (puts_then (puts_then (puts_then (puts_then own row) reason) c.put-3.ensures)
    c.put_last.ensures) c.push.ensures)
