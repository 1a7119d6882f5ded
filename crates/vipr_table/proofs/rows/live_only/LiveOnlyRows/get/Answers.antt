use Rattle.std.proofs.Common.{ap, sym, refl, ◌∙◌, None, Some}
use Rattle.vipr_table.specs.Table.{entry_at}
use Rattle.vipr_table.proofs.TableLemmas.{seen, if_live-true, if_live-false}
use Rattle.vipr_table.proofs.rows.live_only.LiveOnlyRows.get.Goals as goal

pub returns-then-is_live_before : goal.returns-then-is_live_before
returns-then-is_live_before c =
    seen c.self.inside.next c.args.index c.self.inside.rows.entries (Some c.in-Some.entry.now) _ c.in-Some.ensures.value
    (if_live-true c.self.inside.next c.in-Some.entry.now (sym c.is_live_before.ensures ∙ c.if-is_live_before.true))
    ∙ ap (λ t. entry_at t c.args.index) c.self.view_is

pub returns-else-is_live_before : goal.returns-else-is_live_before
returns-else-is_live_before c =
    seen c.self.inside.next c.args.index c.self.inside.rows.entries (Some c.in-Some.entry.now) _ c.in-Some.ensures.value
    (if_live-false c.self.inside.next c.in-Some.entry.now (sym c.is_live_before.ensures ∙ c.if-is_live_before.false))
    ∙ ap (λ t. entry_at t c.args.index) c.self.view_is

pub returns-in_default : goal.returns-in_default
returns-in_default c =
    seen c.self.inside.next c.args.index c.self.inside.rows.entries None _ c.in_default.ensures.value refl
    ∙ ap (λ t. entry_at t c.args.index) c.self.view_is
