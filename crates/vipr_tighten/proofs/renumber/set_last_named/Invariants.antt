use Rattle.std.proofs.Common.{◌≡◌, ◌&&◌, nat_eq, map, take}
use Rattle.std.specs.List.{list_any}
use Rattle.vipr_spec.specs.{Reading.is_nonzero, Tightened.referred_by}
use Rattle.vipr_tighten.proofs.renumber.set_last_named.Given as goal

abbrev pub invariant-loop-entry : goal.invariant-loop-entry
invariant-loop-entry g l = (view : g.D.Tightenable.View)
    → map (g.D.Tightenable.derived view) l.kept ≡ referred_by
    (λ i. list_any (λ e. nat_eq i e.0 && is_nonzero e)
    (take l.entry-index (map g.E.SumEntry.pair l.entries))) l.last l.first
    (map (g.D.Tightenable.derived view) l.fn.kept)
