use Rattle.vipr_rules.proofs.BoundLemmas.{equal_between}
use Rattle.vipr_rules.proofs.bounds.Bounds.narrowed.Goals as goal

pub returns-in-E : goal.returns-in-E
returns-in-E c = rw (c.in-E.is) (λ v.
    let low = c.larger.ensures v in
    let high = c.smaller.ensures v in
    let between = equal_between v c.args.rhs in (
      λ w. let a = low.0 w.0 in let b = high.0 w.1 in ((a.0, b.0), between.1 (a.1, b.1)),
      λ h. let e = between.0 h.1 in (low.1 (h.0.0, e.0), high.1 (h.0.1, e.1)),
    ))
