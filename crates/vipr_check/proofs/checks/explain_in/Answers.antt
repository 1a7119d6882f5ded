use Rattle.std.proofs.Common.{Ok, sym, subst, ◌∙◌}
use Rattle.vipr_spec.specs.Verdict.{IsExplained}
use Rattle.vipr_bytes.specs.Known.{text_of}
use Rattle.vipr_rules.specs.Profile.{profile_of}
use Rattle.vipr_check.specs.Run.{SaysAtEnd, SaysInDetail}
use Rattle.vipr_check.specs.{Checks.ChecksIn, Shown.last_shown, View.answer_of}
use Rattle.vipr_check.proofs.Answering.{run_checks, verdict_shows}
use Rattle.vipr_read.proofs.Laws.{known_by}
use Rattle.vipr_check.proofs.checks.explain_in.Goals as goal

pub returns-in_ok-last_detail-in-Ok-clause-verdict :
    goal.returns-in_ok-last_detail-in-Ok-clause-verdict
returns-in_ok-last_detail-in-Ok-clause-verdict g c =
    let source = g.R.Source.input c.args.source in
    subst (ChecksIn (profile_of c.args.profile) source) (sym c.verdict_of.ensures ∙ c.in-Ok.is)
    (run_checks (profile_of c.args.profile) source c.run-outcome.result
    c.run-outcome.ensures.any c.run-outcome.ensures.explained)

pub returns-in_ok-last_detail-in-Ok-clause-detail :
    goal.returns-in_ok-last_detail-in-Ok-clause-detail
returns-in_ok-last_detail-in-Ok-clause-detail g c =
    let P = profile_of c.args.profile in
    let x = c.run-outcome.result in
    let v = c.in-Ok.verdict in
    let d = c.in_ok-last_detail-in-Ok.field-0 in
    known_by (g.R.Source.input c.args.source) (λ i. SaysAtEnd (IsExplained P (text_of i)) x)
    (λ i. SaysInDetail (IsExplained P (text_of i)) (Ok (v, d))) (λ i h.
    subst (λ s. IsExplained P (text_of i) (answer_of v) s) (sym c.in_ok-last_detail-in-Ok.ensures)
    (verdict_shows (IsExplained P (text_of i)) (last_shown x.1) x.0 v (sym c.verdict_of.ensures
    ∙ c.in-Ok.is) h)) c.run-outcome.ensures.explained

pub returns-in-Err-clause-verdict : goal.returns-in-Err-clause-verdict
returns-in-Err-clause-verdict g c =
    let source = g.R.Source.input c.args.source in
    subst (ChecksIn (profile_of c.args.profile) source) (sym c.verdict_of.ensures ∙ c.in-Err.is)
    (run_checks (profile_of c.args.profile) source c.run-outcome.result
    c.run-outcome.ensures.any c.run-outcome.ensures.explained)
