use Rattle.std.proofs.lemmas.Result.{err_from_is_err_and}
use Rattle.vipr_spec.specs.Reading.{derivation_read}
use Rattle.vipr_read.proofs.{Keeping.kept_on, Whole.fails_first}
use Rattle.vipr_read.proofs.parser.Parser.derivation_into.Goals as goal

pub returns-in_err-stated_into-clause-read : goal.returns-in_err-stated_into-clause-read
unfolding derivation_read
returns-in_err-stated_into-clause-read g c p variables objective =
    let q = err_from_is_err_and c.from_residual.result c.from_residual.ensures.1 in
    let stated = c.in_err-stated_into.ensures.read in
    rw (q.1, q.2) (
      stated.0,
      λ known. rw (← variables, ← objective)
          (fails_first c.in_err-stated_into.field-0.0 _ _ (stated.1 known)),
    )

pub returns-in_err-reason_into-clause-read : goal.returns-in_err-reason_into-clause-read
unfolding derivation_read
returns-in_err-reason_into-clause-read g c p variables objective =
    let q = err_from_is_err_and c.from_residual-in_err-reason_into.result
    c.from_residual-in_err-reason_into.ensures.1 in
    let stated = c.in_ok-stated_into.ensures.read in
    let reason = c.in_err-reason_into.ensures.read in
    rw (q.1, q.2) (
      kept_on _ _ _ stated.0 reason.0,
      λ known. rw (← variables, ← objective, (stated.1 known).0)
          (fails_first c.in_err-reason_into.field-0.0 _ _ (reason.1 (stated.1 known).1)),
    )
