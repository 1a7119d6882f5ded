-- What a call gave, against what the reading of the rest gives, if the rest is known
use Rattle.std.specs.Prelude.{◌≡◌, ℕ, false, List, [], Option, Some, None, Result, Ok, Err}
use Rattle.std.specs.Prelude.{IsSome, IfSome, IfOk}
use Rattle.vipr_spec.specs.Reading.{Rest, Fault, Read, token_read, token_of}
use Rattle.vipr_scan.specs.{Faults.IsFaultOf, declared.error.ScanError.ScanError}

-- the rest, if it is known
abbrev pub rest_of : Option Rest → Rest
rest_of (Some l) = l
rest_of None = record { tokens = []; fails = false; length = 0 }

-- the value that the reading gives, with the rest behind it; or its fault
abbrev pub Gives : {X Y : Type 0} → (X → Y) → Result X ScanError → Option Rest → Read Y → Type 0
Gives view (Ok x) new r = (r ≡ Ok (view x, rest_of new)) × IsSome new
Gives view (Err e) new r = IsFaultOf e r

-- if the rest is known, the call gives what this reading of it gives
abbrev pub Scans : {X Y : Type 0} → (X → Y) → (Rest → Read Y) → Option Rest → Option Rest
    → Result X ScanError → Type 0
Scans view read old new result = IsSome old → Gives view result new (read (rest_of old))

-- the text ended, or has the fault of the reading there
abbrev pub Ends : Result (Unit {0}) ScanError → Result (Unit {0}) Fault → Type 0
Ends (Ok done) r = r ≡ Ok tt
Ends (Err e) r = IsFaultOf e r

-- if the next token is there in full, and no longer than a token may be, this is the rest
-- behind it
abbrev pub IsBehind : Option Rest → Option Rest → Type 0
IsBehind old new = IfSome old (λ l. IfOk (token_read l) (λ t. new ≡ Some t.1))

-- a token is read that means this
abbrev pub Takes : {X Y : Type 0} → (X → Y) → (List ℕ → Result Y ℕ) → (X → Type 0) → Option Rest
    → Option Rest → Result X ScanError → Type 0
Takes view meaning bounds old new result =
    Scans view (token_of meaning) old new result × IsBehind old new × IfOk result bounds
