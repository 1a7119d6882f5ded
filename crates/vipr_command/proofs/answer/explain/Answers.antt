use Rattle.std.proofs.Common.{Ok, ap, false, vec_items, ◌∙◌}
use Rattle.vipr_rules.specs.Profile.{profile_of}
use Rattle.vipr_command.specs.{Answer.AnswersTask, declared.request.Task.TheVariants.Explain}
use Rattle.vipr_command.proofs.InputLemmas.{of_input}
use Rattle.vipr_command.proofs.answer.explain.Goals as goal

pub returns : goal.returns
returns g c =
    let P = profile_of c.args.profile in
    let v = c.in_ok-verdict.verdict in
    let x = c.in_ok-verdict.detail in
    of_input (g.R.Source.input c.args.source) (λ k. k.Explained P (Ok (v, x)))
    (λ k. AnswersTask Explain P false false k
    (Ok (record { text = c.into_bytes.result; status = c.status.result })))
    (λ k h. (
      v,
      (x, h, ap vec_items c.into_bytes.ensures.value ∙ c.in_ok-text.ensures),
      c.status.ensures,
    )) (c.in_ok-verdict.ensures.verdict.any, c.in_ok-verdict.ensures.detail)
