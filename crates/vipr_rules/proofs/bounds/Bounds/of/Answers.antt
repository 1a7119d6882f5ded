use Rattle.std.proofs.Common.{sym, subst}
use Rattle.std.specs.Prelude.{◌↔◌}
use Rattle.vipr_spec.specs.Constraint.{Constraint, Compares}
use Rattle.vipr_rules.specs.Columns.{given_of, HasRow, LiesWithin}
use Rattle.vipr_rules.proofs.{BoundLemmas.bounds_next, ColumnLemmas.given_nth}
use Rattle.vipr_rules.proofs.bounds.Bounds.of.Goals as goal

pub loop-named-preserved : goal.loop-named-preserved
loop-named-preserved c =
    let o = c.args.objective.now in
    let given = given_nth c.args.cons.now c.loop-named.named-index c.named-item.result
    c.loop-named-test.true c.named-item.is in
    bounds_next o (given_of c.args.cons.now) c.loop-named.named-index c.loop-named.bounds
    c.with-bounds.result c.loop-named.invariant
    (λ v. subst (λ (d : Constraint). LiesWithin c.with-bounds.result v
    ↔ (LiesWithin c.loop-named.bounds v × (HasRow o d → Compares d.sense v d.bound)))
    (sym given) (c.with-bounds.ensures v))
