-- Where a cursor is among the bytes at hand
use Rattle.std.specs.Prelude.{◌≡◌, ℕ, ◌+◌, ◌-◌, ◌≤◌, List, ◌++◌, Bool, drop, take, length, Option}
use Rattle.vipr_spec.specs.{Input.Input, Reading.Rest, Tokens.Token}
use Rattle.vipr_scan.specs.Hand.{Hand, at_hand, hand_of, offset_behind, rest_behind}
use Rattle.vipr_scan.specs.declared.place.Position.TheVariants.{Past}
use Rattle.vipr_scan.specs.{Places.tokens_in, declared.cursor.Cursor.Cursor}

abbrev pub hand_at : {R : Type 0} → (R → Option Input) → Cursor R → Hand
hand_at input c = hand_of input c.window.now

-- how many of the bytes at hand were passed
abbrev pub passed_by : {R : Type 0} → Cursor R → ℕ
passed_by c = length (at_hand c.window.now) - length c.bytes.now

-- the rest of the text, if it is known
abbrev pub rest_at : {R : Type 0} → (R → Option Input) → Cursor R → Option Rest
rest_at input c = rest_behind (hand_at input c) (passed_by c)

-- the first n of these bytes are white space before a token or their end
pub record IsGapAt (bytes : List ℕ) (n : ℕ) : Type 0 where
  pub within : n ≤ length bytes
  pub tokens : (fails : Bool) (offset : ℕ) (rest : List ℕ) →
      tokens_in Past fails offset (bytes ++ rest)
      ≡ tokens_in Past fails (offset + n) (drop n bytes ++ rest)

-- the token behind white space, of so many bytes
abbrev pub token_at : {R : Type 0} → (R → Option Input) → Cursor R → ℕ → ℕ → Token
token_at input c gap len =
    record {
      bytes = take len (drop gap c.bytes.now);
      offset = offset_behind (hand_at input c) (passed_by c + gap);
    }
