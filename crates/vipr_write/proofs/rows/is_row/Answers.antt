use Rattle.std.proofs.Common.{ap}
use Rattle.vipr_spec.specs.Constraint.{at}
use Rattle.vipr_spec.proofs.Laws.{same_rows}
use Rattle.vipr_write.proofs.rows.is_row.Goals as goal

pub returns : goal.returns
returns c = (
  λ is. same_rows c.args.row.now c.args.other.now c.entries-entries.ensures.no_zeros
      c.entries-others.ensures.no_zeros (c.is_same.ensures.0 is),
  λ same. c.is_same.ensures.1 (λ j. ap (λ r. at r j) same),
)
