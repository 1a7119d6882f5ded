-- Premises on what a source gives
use Rattle.std.specs.Prelude.{◌≡◌, ◌<◌, ◌^◌, ℕ, false, List, length, Option, IfSome}
use Rattle.vipr_spec.specs.{Input.Input, Reading.Rest, Tokens.tokens}

-- all that there is to read of what a source gives
abbrev pub text_of : Input → Rest
text_of i = record { tokens = tokens i; fails = i.fails; length = length i.bytes }

-- of what the source gives, if that is known, and shorter than 2^64 bytes
abbrev pub IfKnown : Option Input → (Input → Type 0) → Type 0
IfKnown source P = IfSome source (λ i. length i.bytes < 2 ^ 64 → P i)

-- of the whole text, if it is known that no read fails
abbrev pub IfWhole : Option Input → (List ℕ → Type 0) → Type 0
IfWhole source P = IfKnown source (λ i. i.fails ≡ false → P i.bytes)
