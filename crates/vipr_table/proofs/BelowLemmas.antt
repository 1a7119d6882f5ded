-- Which variables the constraints of the table have.
use Rattle.std.proofs.Common.{◌≡◌, ℕ, ◌+◌, Bool, true, false, cond, nat_eq, Some, sym, ap, ◌∙◌}
use Rattle.std.proofs.Common.{subst}
use Rattle.std.specs.{FinMap.get, FinMap.get-empty, Ordering.nat_cmp}
use Rattle.vipr_spec.specs.Constraint.{at, NamesBelow}
use Rattle.vipr_table.specs.declared.rows.Entry.{Entry}
use Rattle.vipr_table.specs.Table.{Table, if_live, live_part, empty_table, step, DerivedBelow}
use Rattle.vipr_table.proofs.TableLemmas.{get-insert_at, get-live_part}
use Rattle.vipr_table.proofs.HistoryLemmas.{if_live_of}

pub DerivedBelow-empty : (n first : ℕ) → DerivedBelow n (empty_table first)
DerivedBelow-empty n first =
    record { each = λ i e h. absurd (let none = get-empty {X = Entry} nat_cmp i in cc (none, h)) }

pub DerivedBelow-step : (n : ℕ) (t : Table) (e : Entry) → DerivedBelow n t
    → NamesBelow n (at e.constraint.row) → DerivedBelow n (step t e)
DerivedBelow-step n t e below new = record {
  each = λ i x h.
      by i x (nat_eq i t.next)
      (sym (get-insert_at (live_part (t.next + 1) t.entries) t.next e i
      ∙ ap (cond (nat_eq i t.next) (Some e)) (get-live_part (t.next + 1) t.entries i)) ∙ h);
}
  where
    by : (i : ℕ) (x : Entry) (b : Bool)
        → cond b (Some e) (if_live (t.next + 1) (get t.entries i)) ≡ Some x
        → NamesBelow n (at x.constraint.row)
    by i x true h = let same : e ≡ x = cc in subst (λ (y : Entry). NamesBelow n (at y.constraint.row)) same new
    by i x false h = below.each i x (if_live_of (t.next + 1) (get t.entries i) x h)
