-- What the public reader of tokens answers, and what it has left after that
use Rattle.std.specs.Prelude.{◌≡◌, Bool, true, false, Option, Some, None, Result, Ok, Err, IsSome}
use Rattle.vipr_spec.specs.{Input.Input, Reading.Rest}
use Rattle.vipr_scan.specs.View.{TokenView, rest_of_window, next_answer, next_left}
use Rattle.vipr_scan.specs.declared.error.TextError.{TextError}
use Rattle.vipr_scan.specs.{Faults.error_of, Giving.rest_of, declared.error.ScanError.ScanError}
use Rattle.vipr_scan.specs.{declared.tokens.Reader.Reader, declared.tokens.Token.Token}

-- whether an error or a token that was too long came, and the rest, if it is known
pub record Reading : Type 0 where
  pub failed : Bool
  pub rest : Option Rest

abbrev pub reading : {R : Type 0} → (R → Option Input) → Reader R → Reading
reading input t = record { failed = t.failed; rest = rest_of_window input t.window }

abbrev pub view_of_token : Token → TokenView
view_of_token t = record { bytes = t.bytes.now; offset = t.offset; long = t.long }

-- an answer with the public error
abbrev pub public_of : {X : Type 0} → Result X ScanError → Result X TextError
public_of (Ok x) = Ok x
public_of (Err e) = Err (error_of e)

abbrev pub public_answer : Rest → Result (Option TokenView) TextError
public_answer l = public_of (next_answer l)

-- an error and a token that is too long end the reading
abbrev pub ends_reading : Result (Option TokenView) TextError → Bool
ends_reading (Ok None) = false
ends_reading (Ok (Some s)) = s.long
ends_reading (Err e) = true

-- it failed if that ended the reading, else the other tokens are left
pub record Follows (old : Reading) (answer : Result (Option TokenView) TextError) (new : Reading)
    : Type 0 where
  pub failed : old.failed ≡ false → new.failed ≡ ends_reading answer
  pub stays : old.failed ≡ true → new ≡ old
  pub rest : old.failed ≡ false → new.failed ≡ false → IsSome old.rest →
      new.rest ≡ Some (next_left (rest_of old.rest))
