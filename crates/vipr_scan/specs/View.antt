-- What a reader of tokens has left.
use Rattle.std.specs.Prelude.{◌≡◌, ℕ, ◌+◌, ◌^◌, ◌<◌, ◌≤◌, nat_lt, Bool, true, false, List, [], ◌∷◌}
use Rattle.std.specs.Prelude.{◌++◌, length, take, drop, Option, Some, None, Result, Ok, Err}
use Rattle.std.specs.Prelude.{slice_range, ◌-◌, min, ◌≢◌, IfOk, IfErr}
use Rattle.std.specs.Prelude.{slice_index, IfSome, if◌then◌else◌, option_and_then}
use Rattle.std.specs.Option.{option_map}
use Rattle.vipr_spec.specs.Tokens.{Token, IsToken, is_white}
use Rattle.vipr_spec.specs.{Input.Input, Reading.Rest, Reading.token_read}
use Rattle.vipr_scan.specs.declared.place.Position.TheVariants.{Past}
use Rattle.vipr_scan.specs.{Giving.Scans, Giving.IsBehind, Places.tokens_in}
use Rattle.vipr_scan.specs.{declared.error.ScanError.ScanError, declared.place.Position.Position}
use Rattle.vipr_scan.specs.{declared.window.Found.Found, declared.window.Window.Window}
use Rattle.vipr_scan.specs.declared.error.ScanError.TheVariants as stop

-- the bytes that were read and not yet consumed
abbrev pub unread : {R : Type 0} → Window R → List ℕ
unread t = slice_range t.buf.value t.start t.end

-- the offset of the first unread byte in the text
abbrev pub front_offset : {R : Type 0} → Window R → ℕ
front_offset t = min (t.offset + t.start) (2 ^ 64 - 1)

-- it is where it was, and what was unread is in front of what is unread now
pub record HoldsUnread {R : Type 0} (old new : Window R) : Type 0 where
  pub place : new.place ≡ old.place
  pub offset : front_offset new ≡ front_offset old
  pub kept : length (unread old) ≤ length (unread new)
  pub front : take (length (unread old)) (unread new) ≡ unread old

-- the input with bytes in front
abbrev pub prepend : List ℕ → Input → Input
prepend bytes i = record { bytes = bytes ++ i.bytes; fails = i.fails }

-- what reads will give from here on, if it is known
abbrev pub source_left : {R : Type 0} → (R → Option Input) → Window R → Option Input
source_left input t =
    if t.ended then Some (record { bytes = []; fails = false }) else input t.source

-- the input from the first byte not yet consumed on, if it is known
abbrev pub input_left : {R : Type 0} → (R → Option Input) → Window R → Option Input
input_left input t = option_map (prepend (unread t)) (source_left input t)

-- of an input that ends at an offset below 2^64
abbrev pub left_of : Position → ℕ → Input → Option Rest
left_of place offset i =
    let end = offset + length i.bytes in
    let tokens = tokens_in place i.fails offset i.bytes in
    let rest : Rest = record { tokens = tokens; fails = i.fails; length = end } in
    if nat_lt end (2 ^ 64) then Some rest else None

abbrev pub rest_of_window : {R : Type 0} → (R → Option Input) → Window R → Option Rest
rest_of_window input t = option_and_then (left_of t.place (front_offset t)) (input_left input t)

-- what was known stays so
abbrev pub Keeps : Option Rest → Option Rest → Type 0
Keeps old new = IfSome old (λ l. new ≡ Some l)

-- no token is left, and this follows
abbrev pub IsOver : Option Rest → Bool → Type 0
IsOver old fails = IfSome old (λ l. (l.tokens ≡ []) × (l.fails ≡ fails))

-- a token is at the front of the unread bytes
abbrev pub IsAtToken : {R : Type 0} → Window R → Type 0
IsAtToken t =
    (0 < length (unread t)) × (t.place ≡ Past) × (is_white (slice_index (unread t) 0) ≡ false)

-- the first n of the unread bytes are all of the token there, or 65,536 bytes of it
abbrev pub IsMeasured : {R : Type 0} → Window R → ℕ → Type 0
IsMeasured t n =
    (t.place ≡ Past) × (0 < n) × (n ≤ 65536) × (n ≤ length (unread t))
    × ((k : ℕ) → k < n → is_white (slice_index (unread t) k) ≡ false)
    × (n < length (unread t) → is_white (slice_index (unread t) n) ≡ true)
    × (n < 65536 → n ≡ length (unread t) → t.ended ≡ true)

-- the reads that may still come, and one for the end
abbrev pub rounds : {R : Type 0} → (R → ℕ) → Window R → ℕ
rounds reads_left t = if t.ended then 0 else reads_left t.source + 1

-- what a caller sees of a token: at most 65,535 of its bytes
pub record TokenView : Type 0 where
  pub bytes : List ℕ
  pub offset : ℕ
  pub long : Bool

abbrev pub view_of_read : Token → TokenView
view_of_read w =
    record { bytes = take 65535 w.bytes; offset = w.offset; long = nat_lt 65535 (length w.bytes) }

abbrev pub view_of_found : List ℕ → Found → TokenView
view_of_found buf f =
    record { bytes = slice_range buf f.start (f.start + f.len); offset = f.offset; long = f.long }

-- the answer if these tokens are left
abbrev pub first_answer : List Token → Bool → Result (Option TokenView) ScanError
first_answer (w ∷ ws) fails = Ok (Some (view_of_read w))
first_answer [] false = Ok None
first_answer [] true = Err stop.Read

abbrev pub next_answer : Rest → Result (Option TokenView) ScanError
next_answer l = first_answer l.tokens l.fails

-- the tokens after the first
abbrev pub next_left : Rest → Rest
next_left l = record l { tokens = drop 1 l.tokens }

-- an answer, as a contract sees it
abbrev pub view_of_answer : {X E : Type 0} → (X → TokenView) → Result (Option X) E
    → Result (Option TokenView) E
view_of_answer view (Ok None) = Ok None
view_of_answer view (Ok (Some x)) = Ok (Some (view x))
view_of_answer view (Err e) = Err e

-- an error and a token that is too long end the reading
abbrev pub stops : Result (Option TokenView) ScanError → Bool
stops (Ok None) = false
stops (Ok (Some s)) = s.long
stops (Err e) = true

-- a token that was found in the buffer
abbrev pub found_token : List ℕ → Found → Token
found_token buf f = record { bytes = slice_range buf f.start (f.start + f.len); offset = f.offset }

-- it lies in the buffer, all of it without white space
abbrev pub IsFound : List ℕ → Found → Type 0
IsFound buf f =
    (f.start + f.len ≤ 65536) × IsToken (slice_range buf f.start (f.start + f.len))

-- the token that is wanted is read, and lies in the buffer; or the fault is that of the reading
-- there, and not that memory ran out
pub record TakesToken {R : Type 0} (input : R → Option Input) (old new : Window R)
    (result : Result Found ScanError) : Type 0 where
  pub read : Scans (found_token new.buf.value) token_read (rest_of_window input old)
      (rest_of_window input new) result
  pub behind : IsBehind (rest_of_window input old) (rest_of_window input new)
  pub found : IfOk result (IsFound new.buf.value)
  pub error : IfErr result (λ e. e ≢ stop.Memory)

-- the first n of the bytes not yet consumed are white space before a token or the end
pub record IsGap {R : Type 0} (t : Window R) (n : ℕ) : Type 0 where
  pub place : t.place ≡ Past
  pub within : n ≤ length (unread t)
  pub tokens : (fails : Bool) (offset : ℕ) (rest : List ℕ) →
      tokens_in Past fails offset (unread t ++ rest)
      ≡ tokens_in Past fails (offset + n) (drop n (unread t) ++ rest)
