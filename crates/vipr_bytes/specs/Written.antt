-- What a sink took of bytes that it was handed
use Rattle.std.specs.Prelude.{◌≡◌, ℕ, suc, ◌-◌, ◌<◌, ◌≤◌, List, ◌++◌, length, Option, Some}
use Rattle.std.specs.Prelude.{option_map, IfSome, Result, Ok, Err}
use Rattle.vipr_bytes.specs.Output.{Output, with_first}
use Rattle.vipr_bytes.specs.declared.write.WriteFailed.{WriteFailed}

-- the output after all of the bytes
abbrev pub with_all : List ℕ → Output → Output
with_all bytes o = record {
  accepted = o.accepted ++ bytes;
  room = option_map (λ room. room - length bytes) o.room;
}

-- o is the output before, and new the one afterwards.
-- Ok: there was room for the bytes, and all were accepted.
-- Err: the first n were accepted, as many as there was room for.
abbrev pub Wrote : Output → Option Output → List ℕ → Result (Unit {0}) WriteFailed → Type 0
Wrote o new bytes (Ok u) =
    IfSome o.room (λ room. length bytes ≤ room) × (new ≡ Some (with_all bytes o))
Wrote o new bytes (Err e) =
    (e.accepted < length bytes) × IfSome o.room (λ room. e.accepted ≡ room)
    × (new ≡ Some (with_first e.accepted bytes o))

-- n writes had failed or accepted nothing before. Such a write is the last one, and the call
-- answers it: a sink that was asked again could fail once more.
abbrev pub EndsAtFailure : {A E : Type 0} → ℕ → Option ℕ → Result A E → Type 0
EndsAtFailure n new (Ok x) = new ≡ Some n
EndsAtFailure n new (Err e) = new ≡ Some (suc n)
