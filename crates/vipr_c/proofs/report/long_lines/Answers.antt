use Rattle.std.proofs.Common.{◌∙◌, refl}
use Rattle.vipr_check.specs.Explanation.{explained_text}
use Rattle.vipr_c.proofs.report.long_lines.Goals as goal

pub returns : goal.returns
returns c =
    let found = c.in_ok-verdict in
    let made = c.in_ok-text.ensures in
    let handed = c.of_verdict.ensures in (
      explained_text found.verdict found.detail,
      made.0,
      (
        found.verdict,
        found.detail,
        found.ensures.verdict,
        found.ensures.detail,
        handed.status,
        refl,
      ),
      made.1,
      handed.text ∙ made.2,
    )
