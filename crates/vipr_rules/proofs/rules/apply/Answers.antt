use Rattle.vipr_rules.proofs.rules.apply.Goals as goal

pub returns-clause-applies : goal.returns-clause-applies
returns-clause-applies g c = c.apply_in.ensures.applies
