-- What the rules ask of the derivations that are replayed: no variable but those of the problem
use Rattle.std.specs.Prelude.{◌≡◌, ℕ, length}
use Rattle.vipr_table.specs.Table.{DerivedBelow}
use Rattle.vipr_explain.specs.declared.changes.Replay.{Replay}

pub record IsReplayOf (n : ℕ) (r : Replay) : Type 0 where
  pub below : DerivedBelow n r.rows
  pub scratch : length r.scratch.sums ≡ n
