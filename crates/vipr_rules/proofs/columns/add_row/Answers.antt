use Rattle.std.proofs.Common.{arith, ap, sym, ◌∙◌, ◌<◌, ◌++◌, ◌∷◌, [], length, rules}
use Rattle.vipr_spec.specs.Constraint.{at}
use Rattle.vipr_rules.proofs.ColumnLemmas.{columns_same, rank, entry_below, half_start, half_next}
use Rattle.vipr_rules.proofs.ColumnLemmas.{column_read}
use Rattle.vipr_rules.proofs.columns.add_row.Goals as goal

pub returns-then-is_same : goal.returns-then-is_same
returns-then-is_same c = λ cs same all. columns_same c.args.objective.now cs c.args.index
    c.args.columns.now (λ j. ap (λ x. at x j) same ∙ c.is_same.ensures.0 c.if-is_same.true j) all

pub loop-place-init : goal.loop-place-init
loop-place-init c = λ cs same all. half_start c.args.objective.now cs c.args.index c.args.row.now
    same c.entries-entry-items.result.now c.entries-entry-items.ensures.list
    c.entries-entry-items.ensures.rising c.args.columns.now all

pub bounds-columns-entry : goal.bounds-columns-entry
bounds-columns-entry c =
    let below = entry_below c.args.row.now c.entries-entry-items.result.now
    c.entries-entry-items.ensures.list c.entries-entry-items.ensures.rising
    (length c.args.columns.now) c.loop-place.place c.entry-item.result c.requires
    c.loop-place-test.true in
    let e = ap (λ q. q.0) c.entry-item.is in
    omega (arith, e, below, c.loop-place.auto.columns)

pub overflow_cast-place : goal.overflow_cast-place
overflow_cast-place c =
    let le = rank c.entries-entry-items.result.now c.loop-place.place c.entry-item.result
    c.entries-entry-items.ensures.rising c.loop-place-test.true in
    let e = ap (λ q. q.0) c.entry-item.is in
    search rules

pub loop-place-preserved : goal.loop-place-preserved
loop-place-preserved c = λ cs same all.
    let es = c.entries-entry-items.result.now in
    let list = c.entries-entry-items.ensures.list in
    let rising = c.entries-entry-items.ensures.rising in
    let below = entry_below c.args.row.now es list rising (length c.args.columns.now)
    c.loop-place.place c.entry-item.result c.requires c.loop-place-test.true in
    let e = ap (λ q. q.0) c.entry-item.is in
    let within : c.entry-item.result.0 < length c.loop-place.columns =
    omega (arith, e, below, c.loop-place.auto.columns) in
    let read = column_read c.loop-place.columns c.entry-item.result.0 within
    c.index-columns-entry.result c.index-columns-entry.is in
    let a = c.of.result in
    let pushed = c.in_ok-push.ensures.items
    ∙ ap (λ w. w.items ++ (c.args.index, a) ∷ []) (sym c.index-columns-entry.is)
    ∙ ap (λ xs. xs ++ (c.args.index, a) ∷ []) (sym read) in
    half_next c.args.objective.now cs c.args.index c.args.row.now same es list rising
    c.loop-place.columns c.loop-place.place c.entry-item.result c.loop-place-test.true
    c.entry-item.is within c.push.new.self a c.of.ensures pushed
    (c.loop-place.invariant cs same all)
