-- What a sink took of a text, whose last bytes are in a buffer
use Rattle.std.specs.Prelude.{◌≡◌, ℕ, ◌-◌, ◌^◌, ◌<◌, min, Bool, true, false, List, [], ◌++◌}
use Rattle.std.specs.Prelude.{length, Option, IfSome, IfErr, Result, Ok, Err}
use Rattle.vipr_bytes.specs.declared.write.WriteFailed.{WriteFailed}
use Rattle.vipr_bytes.specs.{Output.Output, Written.Wrote, Written.EndsAtFailure}

-- what is known of a sink: its output, and how many writes have failed or accepted nothing
pub record Start : Type 0 where
  pub output : Option Output
  pub failures : Option ℕ

abbrev pub start_of : {S : Type 0} → (S → Option Output) → (S → Option ℕ) → S → Start
start_of output failures s = record { output = output s; failures = failures s }

-- the number of bytes up to the greatest one that is counted
abbrev pub counted : ℕ → ℕ
counted n = min n (2 ^ 64 - 1)

-- what the writes of a whole text, or of the front of one, come to
pub record IsEnd (start now : Start) (text : List ℕ) (result : Result (Unit {0}) WriteFailed)
    : Type 0 where
  pub output : IfSome start.output (λ o. Wrote o now.output text result)
  pub part : IfErr result (λ e. e.accepted < length text)
  pub failures : IfSome start.failures (λ n. EndsAtFailure n now.failures result)

-- no write has failed: the text is what the sink took, and what is pending
pub record Flows (start now : Start) (accepted : ℕ) (pending text : List ℕ) : Type 0 where
  pub front : List ℕ
  pub parts : front ++ pending ≡ text
  pub count : accepted ≡ counted (length front)
  pub writes : IsEnd start now front (Ok tt)

-- the last write has failed: the sink took the first n bytes of the text
pub record Stops (start now : Start) (accepted : ℕ) (text : List ℕ) : Type 0 where
  pub n : ℕ
  pub count : accepted ≡ counted n
  pub writes : IsEnd start now text (Err (record { accepted = n }))

abbrev pub Carries_by : Bool → Start → Start → ℕ → List ℕ → List ℕ → Type 0
Carries_by false start now accepted pending text = Flows start now accepted pending text
Carries_by true start now accepted pending text = Stops start now accepted text

-- the pending bytes of a text are handed over, of which so many were before
pub record Hands {S : Type 0} (output : S → Option Output) (failures : S → Option ℕ) (old new : S)
    (before : ℕ) (bytes : List ℕ) (result : ℕ × Bool) : Type 0 where
  pub law : (start : Start) (text : List ℕ)
      → Flows start (start_of output failures old) before bytes text
      → Carries_by result.1 start (start_of output failures new) result.0 [] (text ++ [])
