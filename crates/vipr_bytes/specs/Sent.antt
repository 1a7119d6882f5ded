-- A text that is handed to a sink through a buffer
use Rattle.std.specs.Prelude.{◌≡◌, ℕ, List, ◌++◌, Option}
use Rattle.vipr_bytes.specs.Hands.{Start, start_of, Carries_by}
use Rattle.vipr_bytes.specs.declared.sink_buffer.SinkBuffer.{SinkBuffer}
use Rattle.vipr_bytes.specs.{Output.Output, declared.sink_buffer.ToSink.ToSink}

-- a text from the start on, up to now
abbrev pub Carries : Start → Start → SinkBuffer → List ℕ → Type 0
Carries start now b text = Carries_by b.failed start now b.accepted b.bytes.items text

-- the text gets these bytes more
pub record Sends {S : Type 0} (output : S → Option Output) (failures : S → Option ℕ) (old new : S)
    (b c : SinkBuffer) (bytes : List ℕ) : Type 0 where
  pub law : (start : Start) (text : List ℕ) → Carries start (start_of output failures old) b text
      → Carries start (start_of output failures new) c (text ++ bytes)

-- it is the same sink and the same buffer, and the text got these bytes more
abbrev pub SendsTo : {S : Type 0} → (S → Option Output) → (S → Option ℕ) → ToSink S → List ℕ
    → ToSink S → Type 0
SendsTo output failures first text now =
    (now.sink.ghost_name ≡ first.sink.ghost_name)
    × (now.buffer.ghost_name ≡ first.buffer.ghost_name)
    × Sends output failures first.sink.now now.sink.now first.buffer.now now.buffer.now text
