use Rattle.std.proofs.Common.{◌++◌, length, take}
use Rattle.std.specs.Fmt.{HasWritten, IsPlainFormatter, decimal}
use Rattle.vipr_linear.specs.Text.{entries_text}
use Rattle.vipr_linear.proofs.display.RowDisplay.fmt.Given as goal

-- the count was written, and then the entries before the index
abbrev pub invariant-loop-entry : goal.invariant-loop-entry
invariant-loop-entry g l =
    IsPlainFormatter l.fn.f
    → HasWritten g.W.Write.write_str_gives l.fn.f
    (decimal (length l.entries) ++ entries_text (take l.entry-index l.entries)) l.f
