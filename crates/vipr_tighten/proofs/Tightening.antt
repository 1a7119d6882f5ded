-- The parts of the tightened certificate
use Rattle.std.proofs.Common.{arith, ◌≡◌, ℕ, List, map, length, Option, sym, subst}
use Rattle.vipr_spec.specs.Certificate as is
use Rattle.vipr_spec.specs.{Shape.CanWrite, Tightened.tightened_certificate}
use Rattle.vipr_spec.proofs.Laws.{can_write}
use Rattle.vipr_linear.specs.declared.row.Solution.{Solution}
use Rattle.vipr_cert.specs.Items.{derivation_of, certificate_with}
use Rattle.vipr_cert.specs.{declared.items.Derivation.Derivation, declared.items.Named.Named}
use Rattle.vipr_tighten.specs.Passes.{AreDerivationsOf}

module _ (c : is.Certificate) (p : is.Problem) (ss : List (Named Solution)) (ds : List Derivation)
    (parts : c ≡ certificate_with p ss ds) where
  pub derived : (first : ℕ) → length p.constraints ≡ first → AreDerivationsOf c first (map derivation_of ds)
  derived first is_first = grind arith

  -- what is kept
  module _ (goal : Option ℕ) (tightened : List Derivation)
      (are : map derivation_of tightened ≡ (tightened_certificate c goal).derivations) where
    pub tightened_parts : certificate_with p ss tightened ≡ tightened_certificate c goal
    tightened_parts = grind arith

    pub parts_within : CanWrite c → CanWrite (certificate_with p ss tightened)
    parts_within w = subst CanWrite (sym tightened_parts) (can_write c goal w)
