-- Constraints of the program as those of the definitions
use Rattle.std.specs.Prelude.{◌≡◌, ◌⊎◌, ℕ}
use Rattle.vipr_spec.specs.Fraction.{ℚ}
use Rattle.vipr_spec.specs.Constraint as is
use Rattle.vipr_linear.specs.declared.constraint.Sense.{Sense}
use Rattle.vipr_linear.specs.declared.constraint.Sense.TheVariants.{E, L, G}
use Rattle.vipr_linear.specs.declared.constraint.Constraint.{Constraint}

abbrev pub sense_of : Sense → is.Sense
sense_of E = is.equal
sense_of L = is.at_most
sense_of G = is.at_least

abbrev pub constraint_of : Constraint → is.Constraint
constraint_of c = record { row = c.row; sense = sense_of c.sense; bound = c.rhs }

abbrev pub condition_of : Constraint → is.Condition
condition_of c = is.condition (constraint_of c)

-- what it says with another right-hand side
abbrev pub with_bound : Constraint → ℚ → is.Condition
with_bound c b = record (condition_of c) { bound = b }

-- c has the row of d, and its sense and bound say as much
abbrev pub SaysAsMuch : is.Condition → is.Condition → Type 0
SaysAsMuch c d = ((j : ℕ) → c.row j ≡ d.row j) × ((c.sense ≡ d.sense) ⊎ (c.sense ≡ is.equal))
    × is.Compares d.sense c.bound d.bound
