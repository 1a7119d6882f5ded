-- An error against what the reading of the tokens left gives
use Rattle.std.specs.Prelude.{◌≡◌, ⊤, Result, Err}
use Rattle.vipr_spec.specs.Reading.{Fault, refused, unread}
use Rattle.vipr_scan.specs.{declared.error.ScanError.ScanError, declared.error.TextError.TextError}
use Rattle.vipr_scan.specs.declared.error.ScanError.TheVariants as stop
use Rattle.vipr_scan.specs.declared.error.TextError.TheVariants as error

-- the fault of the reading, unless memory ran out
abbrev pub IsFaultOf : {Y : Type 0} → ScanError → Result Y Fault → Type 0
IsFaultOf (stop.Refused c o) r = r ≡ Err (refused c o)
IsFaultOf stop.Read r = r ≡ Err unread
IsFaultOf stop.Memory r = ⊤

-- what a public reader answers
abbrev pub error_of : ScanError → TextError
error_of (stop.Refused c o) = error.Refused c o
error_of stop.Read = error.Read
error_of stop.Memory = error.Memory

-- the same of a public reader's error
abbrev pub Fails : {Y : Type 0} → TextError → Result Y Fault → Type 0
Fails (error.Refused c o) r = r ≡ Err (refused c o)
Fails error.Read r = r ≡ Err unread
Fails error.Memory r = ⊤
Fails error.Spent r = ⊥
