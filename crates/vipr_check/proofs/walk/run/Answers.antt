use Rattle.std.proofs.Common.{◌≡◌, Some, Err, refl, sym, subst}
use Rattle.std.specs.Prelude.{IsSome}
use Rattle.vipr_spec.specs.{Reading.problem_read, Tests.none, Verdict.IsExplained}
use Rattle.vipr_scan.specs.{Faults.Fails, Giving.rest_of}
use Rattle.vipr_bytes.specs.Known.{text_of}
use Rattle.vipr_check.specs.{Reasons.SaysWhy, Run.SaysWith}
use Rattle.vipr_read.proofs.Laws.{known_by}
use Rattle.vipr_check.proofs.RunLemmas.{problem_failed}
use Rattle.vipr_rules.specs.Profile.{profile_of}
use Rattle.vipr_check.proofs.walk.run.Goals as goal

pub returns-in-Err-clause-explained : goal.returns-in-Err-clause-explained
returns-in-Err-clause-explained g c =
    let r = c.in-Ok.reader in
    let e = c.in-Err.error in
    known_by (g.R.Source.input c.args.source) (λ i. r ≡ Some (text_of i))
    (λ i. SaysWith (IsExplained (profile_of c.args.profile) (text_of i)) none
    (Err c.from.result)) (λ i h.
    subst (SaysWhy (IsExplained (profile_of c.args.profile) (text_of i)) none) (sym c.from.ensures)
    (problem_failed (profile_of c.args.profile) (text_of i) e
    (subst (λ s. Fails e (problem_read (rest_of s))) h
    (c.in-Err.ensures.read (subst IsSome (sym h) refl)))))
    c.in-Ok.ensures
