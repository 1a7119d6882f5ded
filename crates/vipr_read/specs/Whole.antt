-- Reading a whole text
use Rattle.std.specs.Prelude.{◌≡◌, ℕ, List, Result, Ok, Err}
use Rattle.vipr_spec.specs.Certificate.{Problem, Derivation, Certificate}
use Rattle.vipr_spec.specs.Reading.{Rest, Fault, ◌>>=◌, read_each, solution_read, derivations_read}
use Rattle.vipr_spec.specs.Reading.{derivation_read, end_read}
use Rattle.vipr_scan.specs.declared.error.TextError.{TextError}
use Rattle.vipr_scan.specs.{Faults.IsFaultOf, Faults.Fails, declared.error.ScanError.ScanError}

-- the value that the reading gives, as a contract sees it, or its fault
abbrev pub IsParsed : {X Y : Type 0} → (X → Y) → Result X ScanError → Result Y Fault → Type 0
IsParsed view (Ok x) r = r ≡ Ok (view x)
IsParsed view (Err e) r = IsFaultOf e r

-- the same of a public reader's answer
abbrev pub IsRead : {X Y : Type 0} → (X → Y) → Result X TextError → Result Y Fault → Type 0
IsRead view (Ok x) r = r ≡ Ok (view x)
IsRead view (Err e) r = Fails e r

-- what follows the solutions of a problem: the derivations, and the end of the text
abbrev pub derived_read : Problem → Rest → Result (List Derivation) Fault
derived_read p r = do
  d ← derivations_read p r
  derivations ← read_each (derivation_read p) d.0 d.1
  end ← end_read derivations.1
  Ok derivations.0

-- what follows a problem with so many solutions
abbrev pub items_behind : Problem → ℕ → Rest → Result Certificate Fault
items_behind p n r = do
  solutions ← read_each (solution_read p) n r
  derivations ← derived_read p solutions.1
  Ok (record { problem = p; solutions = solutions.0; derivations = derivations })
