use Rattle.std.proofs.Common.{get_or, ◌-◌, arith, ap}
use Rattle.vipr_tighten.proofs.Referring.{referred_at, referred_outside}
use Rattle.vipr_tighten.proofs.renumber.set_last_at.Goals as goal

pub returns-then-place-kept : goal.returns-then-place-kept
returns-then-place-kept g c = λ view.
    let place = c.args.index - c.args.first in
    referred_at (g.D.Tightenable.derived view) c.args.last c.args.first c.args.kept.now place
    c.args.index (get_or c.args.kept.now place c.index-kept-place.result) c.set_last.new.self
    (omega arith) (omega arith)
    (ap (get_or c.args.kept.now place) c.index-kept-place.is) (c.set_last.ensures view)

pub returns-else-place-kept : goal.returns-else-place-kept
returns-else-place-kept g c = λ view. referred_outside (g.D.Tightenable.derived view) c.args.last
    c.args.first c.args.kept.now c.args.index (λ i a b same. omega arith)

pub returns-else-first-index : goal.returns-else-first-index
returns-else-first-index g c = λ view. referred_outside (g.D.Tightenable.derived view) c.args.last
    c.args.first c.args.kept.now c.args.index (λ i a b same. omega arith)
