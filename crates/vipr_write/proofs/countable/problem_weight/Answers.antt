use Rattle.std.proofs.Common.{map}
use Rattle.vipr_linear.specs.Constraint.{constraint_of}
use Rattle.vipr_cert.specs.Items.{named_of, claim_of}
use Rattle.vipr_write.proofs.Weighing.{problem_counted}
use Rattle.vipr_write.proofs.countable.problem_weight.Goals as goal

pub returns : goal.returns
returns c = problem_counted c.args.problem.now c.names.result.now c.integer_variables.result.now
    c.objective.result.now c.entries.result.now (map (named_of constraint_of) c.cons.result.now)
    (claim_of c.claim.result) c.claim_weight.result c.more-total.result c.more-total-2.result
    c.more-total-3.result c.more_constraints.result c.names.ensures.names
    c.integer_variables.ensures.variables c.objective.ensures.objective c.entries.ensures.list
    c.cons.ensures.constraints c.claim.ensures c.claim_weight.ensures c.more-total.ensures
    c.more-total-2.ensures c.more-total-3.ensures c.more_constraints.ensures
