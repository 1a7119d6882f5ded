-- A text that grows in memory
use Rattle.std.specs.Prelude.{◌≡◌, ℕ, false, List, ◌++◌}
use Rattle.vipr_bytes.specs.declared.growing.Growing.{Growing}

-- unless a growth was refused
abbrev pub GrowsBy : Growing → List ℕ → Growing → Type 0
GrowsBy first text now = now.failed ≡ false
    → (first.failed ≡ false) × (now.bytes.items ≡ first.bytes.items ++ text)
