use Rattle.std.proofs.Common.{sym, subst}
use Rattle.vipr_linear.specs.Values.{AreWhole, IsFirstFractional}
use Rattle.vipr_rules.proofs.SolutionLemmas.{all_whole, not_whole}
use Rattle.vipr_rules.proofs.solution.test_integers.Goals as goal

pub returns-in-Some : goal.returns-in-Some
returns-in-Some c = λ p same below.
    let found = subst (λ ints. IsFirstFractional ints c.args.solution.now.0 c.in-Some.entry)
    (sym same) c.in-Some.ensures in
    not_whole p c.args.solution.now.0 c.in-Some.entry found (below c.in-Some.entry.0 found.integer)

pub returns-in-None : goal.returns-in-None
returns-in-None c = λ p same below. all_whole p c.args.solution.now.0
    (subst (λ ints. AreWhole ints c.args.solution.now.0) (sym same) c.in-None.ensures)
