use Rattle.std.proofs.lemmas.Result.{err_from_is_err_and}
use Rattle.vipr_spec.specs.Reading.{problem_read}
use Rattle.vipr_scan.specs.Giving.{rest_of}
use Rattle.vipr_read.proofs.Whole.{fails_first, certificate_parts}
use Rattle.vipr_read.proofs.certificate.parts.Goals as goal

pub returns-in_err-problem : goal.returns-in_err-problem
returns-in_err-problem g c known =
    let q = err_from_is_err_and c.from_residual.result c.from_residual.ensures.1 in
    let l = rest_of c.args.parser.now.rest in
    rw (q.1, q.2, certificate_parts l)
    (fails_first c.in_err-problem.field-0.0 (problem_read l) _
    (c.in_err-problem.ensures.read known))

pub returns-in-Err : goal.returns-in-Err
returns-in-Err g c known =
    let problem = c.in_ok-problem.ensures.read known in
    rw (certificate_parts (rest_of c.args.parser.now.rest), problem.0)
    ((rw c.in-Err.is at c.items.ensures.read) problem.1)

pub returns-in-Ok : goal.returns-in-Ok
returns-in-Ok g c known =
    let problem = c.in_ok-problem.ensures.read known in
    rw (certificate_parts (rest_of c.args.parser.now.rest), problem.0, c.of_parts.ensures.parts)
    ((rw c.in-Ok.is at c.items.ensures.read) problem.1)
