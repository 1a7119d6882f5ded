use Rattle.std.proofs.Common.{refl}
use Rattle.vipr_rules.proofs.solution.laid_value.Goals as goal

pub returns-in-Ok : goal.returns-in-Ok
returns-in-Ok c = λ n x columns_for names. (
  (c.in-Ok.ensures.fits n x columns_for names).0 refl,
  c.in-Ok.ensures.value n x columns_for names,
)

pub returns-in-Err : goal.returns-in-Err
returns-in-Err c = λ n x columns_for names fits. let ok = (c.in-Err.ensures.fits n x columns_for names).1 fits in
    absurd (cc)
