use Rattle.std.proofs.Common.{rules, ◌≡◌, length, refl}
use Rattle.std.proofs.lemmas.Result.{err_from_is_err_and}
use Rattle.vipr_scan.specs.Giving.{rest_of}
use Rattle.vipr_read.specs.Sections.{variables_read}
use Rattle.vipr_read.proofs.{Sections.problem_parts, Whole.fails_first}
use Rattle.vipr_read.proofs.parser.Parser.problem.Goals as goal

pub returns-in_err-names-clause-read : goal.returns-in_err-names-clause-read
returns-in_err-names-clause-read g c known =
    let q = err_from_is_err_and c.from_residual.result c.from_residual.ensures.1 in
    let l = rest_of c.args.self.now.rest in
    rw (q.1, q.2, problem_parts l)
    (fails_first c.in_err-names.field-0.0 (variables_read l) _
    (c.in_err-names.ensures.read known))

pub returns-in-Err-clause-read : goal.returns-in-Err-clause-read
returns-in-Err-clause-read g c known =
    let size : c.len.result ≡ length c.in_ok-names.names.items = search rules in
    let names = c.in_ok-names.ensures.read known in
    let sections = rw (size, c.in-Err.is) at c.sections.ensures.read in
    rw (problem_parts (rest_of c.args.self.now.rest), names.0) (fails_first c.in-Err.stop _ _ (sections.1 names.1))

pub returns-in-Err-claim_and_count-clause-read : goal.returns-in-Err-claim_and_count-clause-read
returns-in-Err-claim_and_count-clause-read g c known =
    let size : c.len.result ≡ length c.in_ok-names.names.items = search rules in
    let names = c.in_ok-names.ensures.read known in
    let sections = (rw (size, c.in-Ok.is) at c.sections.ensures.read).1 names.1 in
    let claim = rw c.in-Err-claim_and_count.is at c.claim_and_count.ensures.read in
    rw (problem_parts (rest_of c.args.self.now.rest), names.0, sections.0)
    (fails_first c.in-Err-claim_and_count.stop _ _ (claim.1 sections.1))

pub returns-clause-read : goal.returns-clause-read
returns-clause-read g c known =
    let size : c.len.result ≡ length c.in_ok-names.names.items = search rules in
    let names = c.in_ok-names.ensures.read known in
    let sections = (rw (size, c.in-Ok.is) at c.sections.ensures.read).1 names.1 in
    let claim = (rw c.in-Ok-claim_and_count.is at c.claim_and_count.ensures.read).1 sections.1 in
    rw (
      problem_parts (rest_of c.args.self.now.rest),
      names.0,
      sections.0,
      claim.0,
      c.of_parts-problem.ensures.parts,
    ) (refl, claim.1)
