-- A text that is put piece by piece
use Rattle.std.specs.Prelude.{ℕ, List, ◌++◌}

-- whatever was put before, these bytes were put behind it
pub record Puts {S : Type 0} (carries : S → List ℕ → S → Type 0) (old new : S) (bytes : List ℕ)
    : Type 0 where
  pub law : (first : S) (text : List ℕ) → carries first text old
      → carries first (text ++ bytes) new
