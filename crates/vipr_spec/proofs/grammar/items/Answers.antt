use Rattle.vipr_spec.proofs.Items.{problem_is, solution_is, reads_derivations, derivation_is}
use Rattle.vipr_spec.proofs.GrammarWhole.{few_constraints_read, reads_end}
use Rattle.vipr_spec.proofs.grammar.items.Goals as goal

pub returns : goal.returns
returns c = record {
  problem = problem_is.reads;
  few_constraints = few_constraints_read;
  solution = λ p. (solution_is p).reads;
  derivations = reads_derivations;
  derivation = λ p. (derivation_is p).reads;
  end = reads_end;
}
