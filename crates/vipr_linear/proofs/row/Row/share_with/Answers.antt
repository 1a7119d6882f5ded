use Rattle.std.proofs.Common.{ap, sym, ◌∙◌}
use Rattle.std.specs.FinMap.{from_sorted}
use Rattle.vipr_linear.proofs.Rows.{same_if_equal, row_again}
use Rattle.vipr_linear.proofs.row.Row.share_with.Goals as goal

pub returns : goal.returns
returns c =
    let same = same_if_equal _ _ c.eq-is_same.result c.eq-is_same.ensures c.if-not-is_same.false in
    c.in_ok-self.ensures.cases
    ∙ sym (row_again c.args.other.now)
    ∙ ap from_sorted (sym c.entries-2.ensures.list ∙ sym same ∙ c.entries.ensures.list)
    ∙ row_again c.args.self.now
