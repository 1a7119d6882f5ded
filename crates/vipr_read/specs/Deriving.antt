-- What a call makes of a parser and of the derivation that it puts in place of another one
use Rattle.std.specs.Prelude.{◌≡◌, Result, OnOk}
use Rattle.vipr_spec.specs.Certificate.{Problem, Derivation, variables}
use Rattle.vipr_spec.specs.Constraint.{Row, at, NamesBelow}
use Rattle.vipr_spec.specs.{Reading.derivation_read, Shape.DerivationShape, Shape.DerivationFits}
use Rattle.vipr_scan.specs.declared.error.ScanError.{ScanError}
use Rattle.vipr_read.specs.Parsing.{Parsing, Parses, Retains}

pub record ReadsDerivation (objective : Row) (step : Derivation)
    (old new : Parsing) (result : Result (Unit {0}) ScanError) : Type 0 where
  pub read : (p : Problem) → old.variables ≡ variables p → objective ≡ p.objective →
      Parses (λ (done : Unit {0}). step) (derivation_read p) old new result
  pub kept : Retains old new
  pub derivation : OnOk result ((NamesBelow old.variables (at objective) →
      DerivationShape old.variables step) × DerivationFits step)
