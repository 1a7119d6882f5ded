use Rattle.std.proofs.Common.{◌++◌, length, ap, ◌∙◌, rules}
use Rattle.std.proofs.{Output.has_written_append, Output.has_written_of_eq, lemmas.List.take_all}
use Rattle.std.specs.Fmt.{decimal}
use Rattle.vipr_linear.specs.Text.{entries_text}
use Rattle.vipr_linear.proofs.Printing.{behind_more}
use Rattle.vipr_linear.proofs.display.RowDisplay.fmt.Goals as goal

pub loop-entry-preserved : goal.loop-entry-preserved
loop-entry-preserved g c = λ plain.
    let now = c.loop-entry.invariant plain in
    has_written_of_eq _ _ _ _ _ (behind_more _ _ _ _ _ c.loop-entry-test.true c.entry-item.is)
    (has_written_append _ _ _ _ _ _ now (search rules))

pub returns-clause-writes : goal.returns-clause-writes
returns-clause-writes g c = λ plain ok.
    let es = c.entries-entries.result.now in
    let whole = ap (λ l. decimal (length es) ++ entries_text l) (take_all _ _ c.loop-entry-test.false) in
    let of_row = ap (λ l. decimal (length l) ++ entries_text l) c.entries-entries.ensures.list in
    has_written_of_eq _ _ _ _ _ (whole ∙ of_row) (c.loop-entry.invariant plain)
