-- The program's certificates as those of the definitions
use Rattle.std.specs.Prelude.{ℕ, List, ◌∷◌, [], None, map}
use Rattle.std.specs.FinMap.{empty}
use Rattle.vipr_spec.specs.{Constraint.Ints, Constraint.Row, Constraint.equal, Fraction.zero_ℚ}
use Rattle.vipr_spec.specs.Certificate as is
use Rattle.vipr_linear.specs.declared.constraint.Constraint.{Constraint}
use Rattle.vipr_linear.specs.{Constraint.constraint_of, declared.row.Solution.Solution}
use Rattle.vipr_cert.specs.declared.items.Claim.TheVariants.{Infeas, Range}
use Rattle.vipr_cert.specs.declared.items.Goal.TheVariants.{Min, Max}
use Rattle.vipr_cert.specs.declared.items.Reason.TheVariants.{Asm, Lin, Rnd, Uns, Sol}
use Rattle.vipr_cert.specs.declared.items.Derivation.{Derivation}
use Rattle.vipr_cert.specs.{declared.items.Claim.Claim, declared.items.Goal.Goal}
use Rattle.vipr_cert.specs.{declared.items.Named.Named, declared.items.Reason.Reason}

abbrev pub named_of : {A B : Type 0} → (A → B) → Named A → is.Named B
named_of view n = record { name = n.name; item = view n.item }

abbrev pub claim_of : Claim → is.Claim
claim_of Infeas = is.infeasible
claim_of (Range lower upper) = is.range lower upper

abbrev pub direction_of : Goal → is.Direction
direction_of Min = is.minimum
direction_of Max = is.maximum

-- a problem of these parts
abbrev pub problem_with : List is.Name → Ints → Goal → Row → List (Named Constraint) → ℕ → Claim
    → is.Problem
problem_with names ints sense objective cons bound_count claim = record {
  names = names;
  integers = ints;
  direction = direction_of sense;
  objective = objective;
  constraints = map (named_of constraint_of) cons;
  bound_count = bound_count;
  claim = claim_of claim;
}

abbrev pub solution_of : Named Solution → is.Named Row
solution_of s = named_of (λ x. x.0) s

abbrev pub reason_of : Reason → is.Reason
reason_of Asm = is.asm
reason_of (Lin es) = is.lin es.items
reason_of (Rnd es) = is.rnd es.items
reason_of (Uns i1 l1 i2 l2) = is.uns i1 l1 i2 l2
reason_of Sol = is.sol

abbrev pub derivation_of : Derivation → is.Derivation
derivation_of d =
    record {
      name = d.name;
      stated = constraint_of d.constraint;
      reason = reason_of d.reason;
      last = d.last;
    }

-- the assumption 0 = 0 by the name -
abbrev pub blank : is.Derivation
blank = record {
  name = 45 ∷ [];
  stated = record { row = empty; sense = equal; bound = zero_ℚ };
  reason = is.asm;
  last = None;
}

-- a certificate of these parts
abbrev pub certificate_with : is.Problem → List (Named Solution) → List Derivation → is.Certificate
certificate_with p solutions derivations =
    record {
      problem = p;
      solutions = map solution_of solutions;
      derivations = map derivation_of derivations;
    }
