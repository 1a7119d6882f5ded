use Rattle.std.proofs.Common.{sym}
use Rattle.vipr_table.proofs.UnionsLemmas.{nothing_gathered}
use Rattle.vipr_table.proofs.assumptions.union.Union.new.Goals as goal

pub returns-clause-none : goal.returns-clause-none
returns-clause-none c = rw (c.new.ensures.items, c.empty.ensures, c.new-2.ensures.items) (sym nothing_gathered)
