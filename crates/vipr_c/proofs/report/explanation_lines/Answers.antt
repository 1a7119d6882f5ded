use Rattle.std.proofs.Common.{◌∙◌}
use Rattle.vipr_c.proofs.report.explanation_lines.Goals as goal

pub returns : goal.returns
returns c =
    let found = c.in_ok-verdict in
    let handed = c.of_verdict.ensures in (
      found.verdict,
      found.detail,
      found.ensures.verdict,
      found.ensures.detail,
      handed.status,
      handed.text ∙ c.in_ok-text.ensures,
    )
