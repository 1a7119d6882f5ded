use Rattle.vipr_c.proofs.report.detail_on.Goals as goal

pub returns : goal.returns
returns c = record {
  verdict = rw c.new.ensures at c.explain_in.ensures.verdict;
  detail = rw c.new.ensures at c.explain_in.ensures.detail;
}
