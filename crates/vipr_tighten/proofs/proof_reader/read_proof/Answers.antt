use Rattle.std.proofs.Common.{sym, subst}
use Rattle.vipr_spec.specs.{Tests.none, Verdict.found_in}
use Rattle.vipr_scan.specs.Giving.{rest_of}
use Rattle.vipr_rules.specs.Profile.{profile_of}
use Rattle.vipr_check.specs.declared.no_proof.NoProof.TheVariants as reason
use Rattle.vipr_check.proofs.Laws.{problem_failed}
use Rattle.vipr_tighten.specs.Keeping.{AnswersProof, AnswersWhy}
use Rattle.vipr_tighten.proofs.Reading.{err_given, err_on, ok_on, known_by, memory_known}
use Rattle.vipr_tighten.proofs.Reading.{rest_answers, rest_found}
use Rattle.vipr_tighten.proofs.proof_reader.read_proof.Goals as goal

pub returns-in_err-reader-clause-unproved : goal.returns-in_err-reader-clause-unproved
returns-in_err-reader-clause-unproved g c =
    let P = profile_of c.args.profile in
    err_given _ c.from_residual.result reason.Memory c.from_residual.ensures.1
    (memory_known P (g.R.Source.input c.args.source))

pub returns-in-Err-clause-unproved : goal.returns-in-Err-clause-unproved
returns-in-Err-clause-unproved g c =
    let P = profile_of c.args.profile in
    let reader = c.in_ok-reader.reader in
    known_by (λ f. AnswersWhy P f c.from.result) (g.R.Source.input c.args.source) reader c.in_ok-reader.ensures
    (λ known. subst (AnswersWhy P (found_in (rest_of reader))) (sym c.from.ensures)
    (none, problem_failed P (rest_of reader) c.in-Err.error (c.in-Err.ensures.read known)))

pub returns-in-Ok-clause-proof : goal.returns-in-Ok-clause-proof
returns-in-Ok-clause-proof g c =
    let P = profile_of c.args.profile in
    let reader = c.in_ok-reader.reader in
    ok_on _ _ c.read_rest.result (λ kept h.
    let (x, is, proof) = h in (
      x,
      is,
      known_by (λ f. AnswersProof P f x kept.report) (g.R.Source.input c.args.source) reader
          c.in_ok-reader.ensures (λ known.
          let read = c.in-Ok.ensures.read known in
          rest_found P (rest_of reader) c.in-Ok.problem c.in-Ok.solutions read.0 x kept.report (proof.found read.1)),
    )) c.read_rest.ensures.kept

pub returns-in-Ok-clause-unproved : goal.returns-in-Ok-clause-unproved
returns-in-Ok-clause-unproved g c =
    let P = profile_of c.args.profile in
    let reader = c.in_ok-reader.reader in
    err_on _ _ c.read_rest.result (λ e h.
    known_by (λ f. AnswersWhy P f e) (g.R.Source.input c.args.source) reader c.in_ok-reader.ensures (λ known.
    let read = c.in-Ok.ensures.read known in
    rest_answers P (rest_of reader) c.in-Ok.problem c.in-Ok.solutions read.0 e (h read.1))) c.read_rest.ensures.unproved
