-- The digest of a text
use Rattle.std.specs.Prelude.{ℕ, List}
use Rattle.hex.specs.Hex.{encode_lower}
use Rattle.sha2.specs.Sha256.{sha256}

-- the SHA-256 of some bytes, in hex digits of lower case
abbrev pub hex_digest : List ℕ → List ℕ
hex_digest bytes = encode_lower (sha256 bytes)
