use Rattle.std.proofs.Common.{rules, ◌≡◌, ℕ, ◌+◌, ◌<◌, filter, map, length, slice_set, arith, sym}
use Rattle.std.proofs.Common.{ap, ◌∙◌, subst}
use Rattle.std.proofs.{lemmas.Fn.filter_same, lemmas.List.length-map, lemmas.List.map-set}
use Rattle.vipr_spec.specs.{Fraction.ℚ, Reading.is_nonzero}
use Rattle.vipr_tighten.specs.Passes.{index_by}
use Rattle.vipr_tighten.proofs.Entries.{EntriesSoFar, under, same_entry, next_entry, all_entries}
use Rattle.vipr_tighten.proofs.Pairs.{pair_read, pair_filter}
use Rattle.vipr_tighten.proofs.renumber.renumber_entries.Goals as goal

pub loop-i-preserved : goal.loop-i-preserved
loop-i-preserved g c =
    let pair = g.E.SumEntry.pair in
    let old = map pair c.retain.new.self.items in
    let size = length-map c.retain.new.self.items pair in
    let now = c.loop-i.entries.items in
    let inside : c.loop-i.i < length old = omega arith in
    let y = c.index_mut.result.now in
    let read = pair_read pair now c.loop-i.i y (search rules) c.index_mut.ensures.value in
    let other = pair_read pair now c.loop-i.i c.index.result.now (search rules) c.index.ensures in
    let made = next_entry c.args.first c.args.table.now old c.loop-i.i (map pair now) inside
    c.loop-i.invariant (pair y) read in
    let same = same_entry c.args.first c.args.table.now old c.loop-i.i (map pair now) inside
    c.loop-i.invariant (pair y) read (pair c.index.result.now) other in
    let there : c.index_of-moved.result ≡ index_by c.args.first c.args.table.now (pair y).0 =
    c.index_of-moved.ensures
    ∙ ap (λ i. index_by c.args.first c.args.table.now i) c.index-in-loop-i.ensures
    ∙ ap (λ (e : ℕ × ℚ). index_by c.args.first c.args.table.now e.0) same in
    let moved : pair c.set_index.new.self ≡ under c.args.first c.args.table.now (pair y) =
    c.set_index.ensures ∙ ap (λ n. (n, (pair y).1)) there in
    subst (EntriesSoFar c.args.first c.args.table.now old (c.loop-i.i + 1))
    (sym (map-set pair now c.loop-i.i c.set_index.new.self))
    (subst (λ e. EntriesSoFar c.args.first c.args.table.now old (c.loop-i.i + 1)
    (slice_set (map pair now) c.loop-i.i e)) (sym moved) made)

pub returns : goal.returns
returns g c =
    let pair = g.E.SumEntry.pair in
    let all = map pair c.args.entries.now.items in
    let old = map pair c.retain.new.self.items in
    let size = length-map c.retain.new.self.items pair in
    let kept : old ≡ filter is_nonzero all =
    ap (map pair)
    (filter_same _ (λ e. is_nonzero (pair e)) _ (λ x r f' k. search rules) _ _
    c.retain.ensures.filtered) ∙ pair_filter pair c.args.entries.now.items in
    let past : length old < c.loop-i.i + 1 = omega arith in
    all_entries c.args.first c.args.table.now old c.loop-i.i (map pair c.loop-i.entries.items) c.loop-i.invariant past
    ∙ ap (λ l. map (under c.args.first c.args.table.now) l) kept
