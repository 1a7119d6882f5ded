use Rattle.std.proofs.{Common.arith, lemmas.Bool.false≢true}
use Rattle.vipr_linear.proofs.Rows.{rises_more, falls_at}
use Rattle.vipr_linear.proofs.row.rises.Goals as goal

pub loop-i-preserved : goal.loop-i-preserved
loop-i-preserved c = rises_more _ c.loop-i.i _ _ (omega arith) (omega arith) c.if-pairs-i.false c.loop-i.invariant

pub returns-then-pairs-i : goal.returns-then-pairs-i
returns-then-pairs-i c = (
  λ t. absurd (false≢true t),
  λ r. absurd (falls_at _ c.loop-i.i _ _ (omega arith) (omega arith) c.if-pairs-i.true r),
)
