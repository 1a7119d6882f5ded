use Rattle.std.proofs.Common.{Ok, Err}
use Rattle.vipr_rules.specs.Profile.{profile_of}
use Rattle.vipr_command.specs.{Answer.TellsWhole, Answer.input_of, Known.known_by}
use Rattle.vipr_command.proofs.AnswerLemmas.{checked_of, said_of, unanswered}
use Rattle.vipr_command.proofs.in_memory.ReadText.answer.Goals as goal

pub returns-in_err-verdict : goal.returns-in_err-verdict
returns-in_err-verdict c =
    let j = c.args.job.now in
    let P = profile_of j.profile in
    let t = c.args.self.now in
    let i = input_of t.bytes.items t.has_failed in
    let e = c.in_err-verdict.field-0.0 in
    let r = c.reader.ensures in
    unanswered (TellsWhole j.command P j.is_long j.has_sum i) P
    (known_by i) e c.from_residual.result c.from_residual.ensures.1
    ((checked_of _ _ _ _ r.bytes r.end P (Err e) c.in_err-verdict.ensures.verdict).exact
    r.short)

pub returns : goal.returns
returns c =
    let P = profile_of c.args.job.now.profile in
    let r = c.reader.ensures in (
      c.in_ok-verdict.verdict,
      record {
        x = c.in_ok-verdict.detail;
        explained = said_of _ _ _ _ r.bytes r.end P
            (Ok (c.in_ok-verdict.verdict, c.in_ok-verdict.detail)) r.short
            c.in_ok-verdict.ensures.detail;
        checked = checked_of _ _ _ _ r.bytes r.end P (Ok c.in_ok-verdict.verdict) c.in_ok-verdict.ensures.verdict;
        short = r.short;
        printed = c.in_ok-text.ensures;
      },
      c.status.ensures,
    )
