use Rattle.std.proofs.Common.{◌≡◌, ◌∙◌, Bool, true, false, Option, None, Some, cond, ap, sym}
use Rattle.vipr_table.specs.{Table.entry_at, Table.if_live, declared.rows.Entry.Entry}
use Rattle.vipr_table.proofs.TableLemmas.{if_live-true, if_live-false}
use Rattle.vipr_table.proofs.KeepAllLemmas.{kept_seen, none_before, none_after}
use Rattle.vipr_table.proofs.rows.keep_all.KeepAllRows.get.Goals as goal
use Rattle.vipr_table.proofs.rows.keep_all.KeepAllRows.get.Goals.{After-index-kept}

pub returns-then-index-self : goal.returns-then-index-self
returns-then-index-self c = none_before _ _ _ _ _ c.self.invariant c.args.index c.if-index-self.true
    ∙ ap (λ t. entry_at t c.args.index) c.self.view_is

pub returns-then-self-index : goal.returns-then-self-index
returns-then-self-index c = none_after _ _ _ _ _ c.self.invariant c.args.index c.if-self-index.true
    ∙ ap (λ t. entry_at t c.args.index) c.self.view_is

-- the look-up's answer, by what is live of the entry at the place
module _ (c : After-index-kept) where
  seen : (r : Option Entry)
      → if_live c.self.inside.next
      (cond c.index-kept.result.now.is_forgotten None (Some c.index-kept.result.now.entry)) ≡ r
      → r ≡ entry_at c.args.self.now c.args.index
  seen r live =
      kept_seen _ _ _ _ _ c.self.invariant c.args.index c.index-kept.result.now r
      c.if-index-self.false c.if-self-index.false c.index-kept.ensures live
      ∙ ap (λ t. entry_at t c.args.index) c.self.view_is

  still : (b : Bool) → c.index-kept.result.now.is_forgotten ≡ b
      → if_live c.self.inside.next
      (cond c.index-kept.result.now.is_forgotten None (Some c.index-kept.result.now.entry)) ≡
      if_live c.self.inside.next (cond b None (Some c.index-kept.result.now.entry))
  still b is = ap (λ b. if_live c.self.inside.next (cond b None (Some c.index-kept.result.now.entry))) is

pub returns-then-kept : goal.returns-then-kept
returns-then-kept c =
    let k = (goal.at.returns-then-kept c).After-index-kept in
    seen k _ (still k true c.if-kept.true)

pub returns-then-is_live_before : goal.returns-then-is_live_before
returns-then-is_live_before c =
    let k = (goal.at.returns-then-is_live_before c).After-index-kept in
    seen k _ (still k false c.if-kept.false
    ∙ if_live-true c.self.inside.next c.index-kept.result.now.entry
    (sym c.is_live_before.ensures ∙ c.if-is_live_before.true))

pub returns-else-is_live_before : goal.returns-else-is_live_before
returns-else-is_live_before c =
    let k = (goal.at.returns-else-is_live_before c).After-index-kept in
    seen k _ (still k false c.if-kept.false
    ∙ if_live-false c.self.inside.next c.index-kept.result.now.entry
    (sym c.is_live_before.ensures ∙ c.if-is_live_before.false))
