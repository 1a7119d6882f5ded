use Rattle.std.proofs.Common.{◌+◌, ap, ◌∙◌, sym, subst, rules}
use Rattle.std.specs.{FinMap.from_entries, Ordering.nat_cmp}
use Rattle.vipr_table.specs.Expiry.{IsTied, dues}
use Rattle.vipr_table.proofs.TableLemmas.{entries_inserted}
use Rattle.vipr_table.proofs.{ExpiryOrderLemmas.IsTied-put}
use Rattle.vipr_table.proofs.rows.live_only.LiveOnlyRows.put.Goals as goal

pub invariant_of-self-2 : goal.invariant_of-self-2
invariant_of-self-2 c =
    let notes = rw (c.expiry-expiry.ensures, c.reserve_one.ensures.same) at c.note.ensures in
    let written = c.insert_entry.ensures in
    let inserted = ap (λ m. from_entries {R = nat_cmp} m.entries) written.1
    ∙ entries_inserted c.self.inside.rows.entries _ c.self.inside.next c.args.entry
    (c.in-Ok.ensures.update.0 c.args.entry).0 in
    let back = sym inserted in
    subst (λ m. IsTied (c.self.inside.next + 1) m (dues c.note.new.self.heap))
    (search (rules, back, written, c.in-Ok.ensures.same_map))
    (IsTied-put _ _ _ _ c.args.entry c.self.invariant notes)

pub returns-clause-ok : goal.returns-clause-ok
returns-clause-ok c =
    let written = c.insert_entry.ensures in
    let inserted = ap (λ m. from_entries {R = nat_cmp} m.entries) written.1
    ∙ entries_inserted c.self.inside.rows.entries _ c.self.inside.next c.args.entry
    (c.in-Ok.ensures.update.0 c.args.entry).0 in
    search (rules, inserted, written, c.in-Ok.ensures.same_map, c.self.view_is)
