-- What a scanner has left, and what of it is at hand
use Rattle.std.specs.Prelude.{Option}
use Rattle.vipr_spec.specs.{Input.Input, Reading.Rest}
use Rattle.vipr_scan.specs.declared.window.Window.{Window}
use Rattle.vipr_scan.specs.{Hand.Hand, Hand.hand_of, View.rest_of_window}

pub record Scanning : Type 0 where
  pub rest : Option Rest
  pub hand : Hand

abbrev pub scanning_of : {R : Type 0} → (R → Option Input) → Window R → Scanning
scanning_of input t = record { rest = rest_of_window input t; hand = hand_of input t }
