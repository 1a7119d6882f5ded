-- What a sink took of a certificate's text
use Rattle.std.specs.Prelude.{◌≡◌, ℕ, suc, ◌<◌, List, length, Option, Some, Result, Ok, Err}
use Rattle.vipr_bytes.specs.{Output.Output, Written.Wrote, declared.write.WriteFailed.WriteFailed}
use Rattle.vipr_write.specs.declared.write.WriteError.{WriteError}
use Rattle.vipr_write.specs.declared.write.WriteError.TheVariants.{Write, Memory}

abbrev pub write_error : WriteFailed → WriteError
write_error e = Write e.accepted

-- o is the output before, and new the one afterwards.
-- Ok: the text was accepted whole. Write: its first n bytes were, as many as there was room for.
-- Memory: nothing was written.
abbrev pub WroteText : Output → Option Output → List ℕ → Result (Unit {0}) WriteError → Type 0
WroteText o new text (Ok u) = Wrote o new text (Ok u)
WroteText o new text (Err (Write n)) = Wrote o new text (Err (record { accepted = n }))
WroteText o new text (Err (Memory n)) = (n ≡ 0) × (new ≡ Some o)

-- Of every sink: a part of the text was accepted, and nothing if memory was refused.
abbrev pub IsWithin : List ℕ → WriteError → Type 0
IsWithin text (Write n) = n < length text
IsWithin text (Memory n) = n ≡ 0

-- n writes had failed or accepted nothing before. Such a write is the last one; if memory was
-- refused there was none.
abbrev pub LeavesFailures : ℕ → Option ℕ → Result (Unit {0}) WriteError → Type 0
LeavesFailures n new (Ok u) = new ≡ Some n
LeavesFailures n new (Err (Write k)) = new ≡ Some (suc n)
LeavesFailures n new (Err (Memory k)) = new ≡ Some n
