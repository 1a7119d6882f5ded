-- The law of a reader whose bytes are known.
use Rattle.std.specs.Prelude.{◌≡◌, ℕ, ◌≤◌, true, false, List, [], length, take, drop, Option, Some}
use Rattle.std.specs.Prelude.{Result, Ok, Err}
use Rattle.vipr_spec.specs.Input.{Input}
use Rattle.vipr_bytes.specs.declared.source.Failed.{Failed}

-- the input after its first n bytes
abbrev pub after : ℕ → Input → Input
after n i = record { bytes = drop n i.bytes; fails = i.fails }

-- a read of n bytes gave the first n; 0 comes only at the end, and a failure only where it is
abbrev pub ReadsBytes : Input → Option Input → Result ℕ Failed → List ℕ → Type 0
ReadsBytes i new (Ok n) buf = (n ≤ length i.bytes) × (take n buf ≡ take n i.bytes)
    × (new ≡ Some (after n i)) × (n ≡ 0 → (i.bytes ≡ []) × (i.fails ≡ false))
ReadsBytes i new (Err e) buf = (i.bytes ≡ []) × (i.fails ≡ true)
