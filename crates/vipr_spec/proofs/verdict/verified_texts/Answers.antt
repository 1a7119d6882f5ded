use Rattle.vipr_spec.proofs.Points.{claim_shown}
use Rattle.vipr_spec.proofs.WholeText.{verified_read, verified_text, proof_answered}
use Rattle.vipr_spec.proofs.verdict.verified_texts.Goals as goal

pub returns : goal.returns
returns c = record {
  read = verified_read;
  spelled = verified_text;
  proved = proof_answered;
  shown = λ P bytes report h. let v = (verified_text P bytes report).0 h in (v.0, v.1, claim_shown P v.0 v.2);
}
