-- What was read by a cursor, if the parser goes on where it came
use Rattle.std.proofs.Common.{arith, ◌≡◌, ℕ, ◌-◌, length, Option, Some, Result, Ok}
use Rattle.vipr_spec.specs.{Certificate.Derivation, Constraint.Row, Reading.Rest}
use Rattle.vipr_scan.specs.{Hand.Hand, Hand.rest_behind, declared.error.ScanError.ScanError}
use Rattle.vipr_read.specs.{Deriving.ReadsDerivation, Parsing.Parsing}

pub carried : (objective : Row) (step : Derivation) (old old' new' new : Parsing)
    (result : Result (Unit {0}) ScanError) → old'.rest ≡ old.rest → old'.variables ≡ old.variables
    → new.rest ≡ new'.rest → new.variables ≡ new'.variables → new.home ≡ old.home
    → result ≡ Ok tt → ReadsDerivation objective step old' new' result
    → ReadsDerivation objective step old new (Ok tt)
carried objective step old old' new' new result rest variables rest' variables' home ok h = grind arith

-- what the cursor leaves is left where it came
pub went : (to hand : Hand) (left : ℕ) (old new : Option Rest) → Some to ≡ Some hand
    → old ≡ rest_behind to (length to.bytes - left)
    → new ≡ rest_behind hand (length hand.bytes - left) → new ≡ old
went to hand left old new same before after = grind arith
