use Rattle.std.proofs.Output.{has_written_of_eq}
use Rattle.vipr_check.proofs.Explaining.{derivation_explained}
use Rattle.vipr_check.proofs.explanation.ExplanationDisplay.fmt.Goals as goal

pub returns-in-Der-Some-clause-writes : goal.returns-in-Der-Some-clause-writes
returns-in-Der-Some-clause-writes g c = λ plain ok.
    let known = c.in-Der-Some in
    let text = derivation_explained c.args.self.now.verdict.now c.args.self.now.detail.now
    c.in-Refused.refusal known.index known.name.now c.name-cause.result.now c.in-Refused.is
    known.is-0 known.ensures c.name-cause.ensures in
    has_written_of_eq _ _ _ _ _ text (c.write-in-Der-Some.ensures.writes plain ok)
