-- The hash of an index of the table.
use Rattle.std.specs.Prelude.{ℕ, ◌+◌, ◌*◌, ◌/◌, ◌%◌, ◌^◌, List, fold, bit_xor}

-- a number of four bytes as far as it is written, with its next byte, the lowest first
abbrev pub with_byte : ℕ → ℕ → ℕ
with_byte number byte = bit_xor (number / 256) (byte * 0x1000000)

-- .. with its next bytes
abbrev pub with_bytes : ℕ → List ℕ → ℕ
with_bytes number bytes = fold with_byte number bytes

-- a block of four numbers, spread by a product
abbrev pub spread : ℕ → ℕ
spread block = block * 0x9E3779B97F4A7C15 % 2 ^ 64 / 0x800000000

-- the hash of a number: the four of a block differ above
abbrev pub hash : ℕ → ℕ
hash number = (spread (number / 4) + number % 4 * 0x20000000) % 2 ^ 64
