-- The law of a writer whose accepted bytes are known.
use Rattle.std.specs.Prelude.{◌≡◌, ℕ, zero, suc, ◌-◌, ◌<◌, ◌≤◌, List, ◌++◌, take, Option, Some}
use Rattle.std.specs.Prelude.{None, option_map, IfSome, Result, Ok, Err}
use Rattle.vipr_bytes.specs.declared.source.Failed.{Failed}

-- the bytes that were accepted, and if that is known how many more there is room for
pub record Output : Type 0 where
  pub accepted : List ℕ
  pub room : Option ℕ

-- the output of a writer of std that holds these bytes, if they are known
abbrev pub output_of : Option (List ℕ) → Option Output
output_of bytes = option_map (λ accepted. record { accepted = accepted; room = None }) bytes

-- the output after the first n of these bytes
abbrev pub with_first : ℕ → List ℕ → Output → Output
with_first n bytes o =
    record { accepted = o.accepted ++ take n bytes; room = option_map (λ room. room - n) o.room }

-- a write of n bytes took the first n, within the room, and some if there was room; a write
-- fails only without room, and takes nothing then
abbrev pub Writes : Output → Option Output → Result ℕ Failed → List ℕ → Type 0
Writes o new (Ok n) bytes = IfSome o.room (λ room. (n ≤ room) × (0 < room → 0 < n))
    × (new ≡ Some (with_first n bytes o))
Writes o new (Err e) bytes = IfSome o.room (λ room. room ≡ 0) × (new ≡ Some o)

-- whether a write failed or took nothing, as a number
abbrev pub failure_of : Result ℕ Failed → ℕ
failure_of (Ok zero) = 1
failure_of (Ok (suc n)) = 0
failure_of (Err e) = 1
