use Rattle.std.proofs.Common.{refl, sym, ap, ◌∙◌, false, arith}
use Rattle.vipr_table.specs.declared.rows.keep_all.Kept.{Kept}
use Rattle.vipr_table.specs.{KeepAll.entries_not_forgotten, Table.put_entry}
use Rattle.std.specs.FinMap.{insert}
use Rattle.vipr_table.proofs.TableLemmas.{same_table}
use Rattle.vipr_table.proofs.KeepAllLemmas.{IsKept-put, kept_map-push, len-kept_map}
use Rattle.vipr_table.proofs.rows.keep_all.KeepAllRows.put.Goals as goal

pub invariant_of-self : goal.invariant_of-self
invariant_of-self c = rw c.reserve_one.ensures.same c.self.invariant

pub overflow_add-self : goal.overflow_add-self
overflow_add-self c =
    let next = ap (λ t. t.next) c.self.view_is in
    let few = len-kept_map c.self.inside.first c.self.inside.kept.items in
    let placed = c.self.invariant.placed in
    let count = c.self.invariant.count in
    omega (arith, next, few, placed, count)

pub overflow_add-self-2 : goal.overflow_add-self-2
overflow_add-self-2 c = let next = ap (λ t. t.next) c.self.view_is in omega (arith, next)

pub invariant_of-self-2 : goal.invariant_of-self-2
invariant_of-self-2 c =
    let notes = rw (c.expiry-expiry.ensures, c.reserve_one.ensures.same) at c.note.ensures in
    rw c.in_default-push.ensures.items (IsKept-put _ _ _ _ _ c.self.invariant _ _ notes refl)

pub returns-clause-ok : goal.returns-clause-ok
returns-clause-ok c =
    let kept = c.self.invariant in
    let k : Kept = record { entry = c.args.entry; is_forgotten = false } in
    same_table _ _ refl refl
    (ap (entries_not_forgotten c.self.inside.first) c.in_default-push.ensures.items
    ∙ kept_map-push c.self.inside.first c.self.inside.kept.items k refl
    ∙ ap (λ n. insert (entries_not_forgotten c.self.inside.first c.self.inside.kept.items) n
    c.args.entry) (sym kept.placed))
    ∙ ap (λ t. put_entry t c.args.entry) c.self.view_is
