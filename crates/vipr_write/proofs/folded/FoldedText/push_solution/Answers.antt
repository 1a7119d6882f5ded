use Rattle.vipr_write.proofs.Folding.{pushed}
use Rattle.vipr_write.proofs.folded.FoldedText.push_solution.Goals as goal

pub invariant_of-self : goal.invariant_of-self
invariant_of-self c =
    (pushed c.self.inside.folded c.put_solution.new.out c.or_empty.new.self c.self.inside.objective
    _ c.args.self.now c.or_empty.result c.put_solution.ensures c.self.invariant.0 c.self.invariant.1
    c.self.view_is c.or_empty.ensures).0

pub returns-clause-ok : goal.returns-clause-ok
returns-clause-ok c =
    (pushed c.self.inside.folded c.put_solution.new.out c.or_empty.new.self c.self.inside.objective
    _ c.args.self.now c.or_empty.result c.put_solution.ensures c.self.invariant.0 c.self.invariant.1
    c.self.view_is c.or_empty.ensures).1

pub returns-clause-err : goal.returns-clause-err
returns-clause-err c =
    (pushed c.self.inside.folded c.put_solution.new.out c.or_empty.new.self c.self.inside.objective
    _ c.args.self.now c.or_empty.result c.put_solution.ensures c.self.invariant.0 c.self.invariant.1
    c.self.view_is c.or_empty.ensures).2
