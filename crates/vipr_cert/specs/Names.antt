-- The bytes of a name
use Rattle.std.specs.Prelude.{ℕ, List, take}
use Rattle.bstr.specs.Owned.{bstring_bytes}
use Rattle.vipr_cert.specs.declared.bytes.NameBytes.{NameBytes}
use Rattle.vipr_cert.specs.declared.bytes.NameBytes.TheVariants.{Short, Long}

-- the bytes that are kept
abbrev pub name_bytes : NameBytes → List ℕ
name_bytes (Short few) = take few.len few.bytes
name_bytes (Long bytes) = bstring_bytes bytes
