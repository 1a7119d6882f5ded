use Rattle.vipr_rules.proofs.BoundLemmas.{from_max}
use Rattle.vipr_rules.proofs.bounds.larger.Goals as goal

pub returns-in-Some : goal.returns-in-Some
returns-in-Some c = rw (c.in-Some.is, c.max.ensures) (λ v. from_max c.in-Some.other c.args.bound v)
