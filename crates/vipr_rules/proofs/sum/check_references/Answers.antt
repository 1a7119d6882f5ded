use Rattle.std.proofs.{Common.subst, lemmas.Result.err_from_is_err_and}
use Rattle.std.specs.Prelude.{flat_map}
use Rattle.vipr_spec.specs.{Constraint.condition, Steps.PassesStep, Steps.reference_tests}
use Rattle.vipr_rules.specs.Apply.{PassesTestsIn}
use Rattle.vipr_rules.proofs.EntryTests.{references_more, reference_fails, take_all}
use Rattle.vipr_rules.proofs.sum.check_references.Goals as goal

pub loop-entry-preserved : goal.loop-entry-preserved
loop-entry-preserved g c = λ P d e is. references_more (PassesStep P d (condition e.stated)) _ _ _
    c.loop-entry-test.true c.entry-item.is _ (c.loop-entry.invariant P d e is)
    (c.in_ok-find_used.ensures.known P d e is).0

pub returns-in_err-find_used : goal.returns-in_err-find_used
returns-in_err-find_used g c = λ P d e is.
    let stops = c.in_err-find_used.ensures.known P d e is in
    let p = err_from_is_err_and c.from_residual.result c.from_residual.ensures.1 in
    rw (p.1, p.2) (
      stops.0,
      reference_fails (PassesStep P d (condition e.stated)) _ _ _ c.loop-entry-test.true
          c.entry-item.is stops.0 (c.loop-entry.invariant P d e is) stops.1,
      stops.2,
    )

pub returns : goal.returns
returns g c = λ P d e is. subst (λ l. PassesTestsIn P d e (flat_map reference_tests l))
    (take_all _ _ c.loop-entry-test.false) (c.loop-entry.invariant P d e is)
