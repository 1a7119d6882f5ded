use Rattle.std.proofs.Common.{◌&&◌, nat_eq, take, map}
use Rattle.std.specs.List.{list_any}
use Rattle.vipr_spec.specs.Reading.{is_nonzero}
use Rattle.vipr_tighten.specs.Passes.{MarksAlso}
use Rattle.vipr_tighten.proofs.needed.mark_entries.Given as goal

abbrev pub invariant-loop-entry : goal.invariant-loop-entry
invariant-loop-entry g l =
    MarksAlso l.first
    (λ i. list_any (λ e. nat_eq i e.0 && is_nonzero e)
    (take l.entry-index (map g.E.SumEntry.pair l.entries))) l.fn.marks l.marks
