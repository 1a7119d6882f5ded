use Rattle.std.proofs.Common.{◌≡◌, take}
use Rattle.vipr_table.specs.Hashing.{with_bytes}
use Rattle.vipr_table.proofs.rows.hasher.IndexHasherHasher.write.Given as goal

abbrev pub invariant-loop-byte : goal.invariant-loop-byte
invariant-loop-byte l = l.self.0 ≡ with_bytes l.fn.self.0 (take l.byte-index l.bytes)
