use Rattle.vipr_rules.proofs.BoundLemmas.{up_to_min}
use Rattle.vipr_rules.proofs.bounds.smaller.Goals as goal

pub returns-in-Some : goal.returns-in-Some
returns-in-Some c = rw (c.in-Some.is, c.min.ensures) (λ v. up_to_min c.in-Some.other c.args.bound v)
