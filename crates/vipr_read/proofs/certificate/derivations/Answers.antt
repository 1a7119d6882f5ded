use Rattle.std.proofs.Common.{◌≡◌, List, length, map, refl, sym, ap, ◌∙◌}
use Rattle.std.proofs.{lemmas.List.length-map, lemmas.Result.err_from_is_err_and}
use Rattle.vipr_linear.specs.Constraint.{constraint_of}
use Rattle.vipr_cert.specs.Items.{named_of}
use Rattle.vipr_read.proofs.Whole.{fails_first}
use Rattle.vipr_read.proofs.certificate.derivations.Goals as goal

-- as many as are seen of them
as_many : {A B : Type 0} (view : A → B) (items : List A) (seen : List B) → map view items ≡ seen
    → length items ≡ length seen
as_many view items seen e = sym (length-map items view) ∙ ap length e

pub returns-in_err-count-clause-read : goal.returns-in_err-count-clause-read
returns-in_err-count-clause-read g c known =
    let q = err_from_is_err_and c.from_residual.result c.from_residual.ensures.1 in
    let count = c.in_err-count.ensures.read c.args.problem.now
    (as_many (named_of constraint_of) _ _ c.cons.ensures.constraints) in
    rw (q.1, q.2) (fails_first c.in_err-count.field-0.0 _ _ (count.1 known))

pub returns-in_err-derivations-clause-read : goal.returns-in_err-derivations-clause-read
returns-in_err-derivations-clause-read g c known =
    let q = err_from_is_err_and c.from_residual-in_err-derivations.result
    c.from_residual-in_err-derivations.ensures.1 in
    let count = (c.in_ok-count.ensures.read c.args.problem.now
    (as_many (named_of constraint_of) _ _ c.cons.ensures.constraints)).1 known in
    let derivations = c.in_err-derivations.ensures.read c.args.problem.now
    (c.in_ok-count.ensures.kept.variables ∙ c.requires) c.objective.ensures.objective in
    rw (q.1, q.2, count.0) (fails_first c.in_err-derivations.field-0.0 _ _ (derivations.1 count.1))

pub returns-in_err-end-clause-read : goal.returns-in_err-end-clause-read
returns-in_err-end-clause-read g c known =
    let q = err_from_is_err_and c.from_residual-in_err-end.result c.from_residual-in_err-end.ensures.1 in
    let count = (c.in_ok-count.ensures.read c.args.problem.now
    (as_many (named_of constraint_of) _ _ c.cons.ensures.constraints)).1 known in
    let derivations =
    (c.in_ok-derivations.ensures.read c.args.problem.now (c.in_ok-count.ensures.kept.variables
    ∙ c.requires) c.objective.ensures.objective).1 count.1 in
    rw (q.1, q.2, count.0, derivations.0)
    (fails_first c.in_err-end.field-0.0 _ _ (c.in_err-end.ensures.read derivations.1))

pub returns-clause-read : goal.returns-clause-read
returns-clause-read g c known =
    let count = (c.in_ok-count.ensures.read c.args.problem.now
    (as_many (named_of constraint_of) _ _ c.cons.ensures.constraints)).1 known in
    let derivations =
    (c.in_ok-derivations.ensures.read c.args.problem.now (c.in_ok-count.ensures.kept.variables
    ∙ c.requires) c.objective.ensures.objective).1 count.1 in
    rw (count.0, derivations.0, c.in_ok-end.ensures.read derivations.1) refl
