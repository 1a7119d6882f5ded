use Rattle.std.proofs.Common.{ap, sym, subst, subst₂, ◌∙◌, length, replicate, slice_index_or}
use Rattle.vipr_spec.specs.{Constraint.at, Constraint.NamesBelow, Fraction.zero_ℚ}
use Rattle.vipr_rules.specs.Columns.{given_in, AreColumns, AreFalseAtZero, AreBounds}
use Rattle.vipr_rules.proofs.ColumnLemmas.{given_same, count_same, names_within}
use Rattle.vipr_rules.proofs.columns.Columns.columns_for.Goals as goal

pub columns_of-requires-clause-names : goal.columns_of-requires-clause-names
columns_of-requires-clause-names c = λ k d l.
    let p = c.args.problem.now in
    let below = names_within p c.cons-cons.result.now c.cons-cons.ensures.constraints
    c.cons-cons.ensures.writes k d l in
    subst (λ n. NamesBelow n (at (slice_index_or c.cons-cons.result.now k d).item.row))
    (sym (ap length c.names.ensures.names)) below

pub returns : goal.returns
returns c =
    let p = c.args.problem.now in
    let given = given_same p c.cons-cons.result.now c.cons-cons.ensures.constraints in
    let count = count_same p c.cons-cons.result.now c.cons-cons.ensures.constraints in
    let o = c.objective-objective.ensures.objective in
    record {
      variables = c.in_ok-columns_of.ensures.variables ∙ ap length c.names.ensures.names;
      columns = subst
          (λ r. AreColumns r (given_in p) (length p.constraints) c.in_ok-columns_of.field-0.items) o
          (subst₂ (λ cs n. AreColumns c.objective-objective.result.now cs n
          c.in_ok-columns_of.field-0.items) given count c.in_ok-columns_of.ensures.columns);
      false_at_zero =
          subst (λ r. AreFalseAtZero r (given_in p) (length p.constraints)
          c.in_ok-false_at_zero.field-0.items) o
          (subst₂ (λ cs n. AreFalseAtZero c.objective-objective.result.now cs n
          c.in_ok-false_at_zero.field-0.items) given count c.in_ok-false_at_zero.ensures);
      bounds = subst (λ r. AreBounds r (given_in p) (length p.constraints) c.of.result) o
          (subst₂ (λ cs n. AreBounds c.objective-objective.result.now cs n c.of.result) given count
          c.of.ensures);
      sums = c.in_ok-new.ensures ∙ ap (λ n. replicate n zero_ℚ) count;
    }
