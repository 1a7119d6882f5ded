use Rattle.vipr_table.proofs.BelowLemmas.{DerivedBelow-empty, DerivedBelow-step}
use Rattle.vipr_table.proofs.rows.laws.names_stay_below.Goals as goal

pub returns : goal.returns
returns c = record { empty = DerivedBelow-empty; step = DerivedBelow-step }
