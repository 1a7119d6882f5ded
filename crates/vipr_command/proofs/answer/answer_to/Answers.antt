use denote.Enum.Bare.{same_false, same_true}
use Rattle.std.proofs.Common.{inl, inr, rules, sym}
use Rattle.vipr_rules.specs.Profile.{profile_of}
use Rattle.vipr_command.specs.{Answer.input_of, contracts.request.Task.the_type}
use Rattle.vipr_command.proofs.AnswerLemmas.{is_check, is_explained, of_kept, read_once}
use Rattle.vipr_command.proofs.answer.answer_to.Goals as goal
use Rattle.vipr_command.proofs.answer.answer_to.Goals.{then-job-via-then-job, then-job-via-else-job+then-job-2}

pub returns-then-job : goal.returns-then-job
returns-then-job g c =
    let j = c.args.job.now in
    let text = c.in_ok-text.text in
    of_kept j.command (profile_of j.profile) j.is_long j.has_sum
    (input_of text.bytes.items text.has_failed) c.answer.result (g.R.Source.input c.args.source)
    (elim c.then-job.branch [
      | then-job-via-then-job w ↦ inl w.if-job.true
      | then-job-via-else-job+then-job-2 w ↦ inr w.if-job-2.true
    ]) c.in_ok-text.ensures
    c.answer.ensures

pub returns-then-eq : goal.returns-then-eq
returns-then-eq g c =
    let j = c.args.job.now in
    let P = profile_of j.profile in
    let source = g.R.Source.input c.args.source in
    read_once P source c.check.result j.command j.is_long j.has_sum c.if-job.false c.if-job-2.false
    (is_check P source c.check.result j.command
    (same_true the_type (search rules) _ _ (sym c.if-eq.ensures)) c.check.ensures)

pub returns-else-eq : goal.returns-else-eq
returns-else-eq g c =
    let j = c.args.job.now in
    let P = profile_of j.profile in
    let source = g.R.Source.input c.args.source in
    read_once P source c.explain.result j.command j.is_long j.has_sum c.if-job.false
    c.if-job-2.false
    (is_explained P source c.explain.result j.command
    (same_false the_type _ _ (sym c.if-eq.ensures)) c.explain.ensures)
