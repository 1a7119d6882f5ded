use Rattle.vipr_rules.proofs.ColumnLemmas.{SummedRow}
use Rattle.vipr_rules.proofs.solution.listed_value.Given as goal

abbrev pub invariant-loop-variable : goal.invariant-loop-variable
invariant-loop-variable l = SummedRow l.row l.solution.0 l.variable-items l.variable-index l.value
