-- How rows and constraints are printed: as in a certificate's canonical text, without a name
use Rattle.std.specs.Prelude.{ℕ, List, ◌++◌, length, flat_map, codes, decimal}
use Rattle.std.specs.FinMap.{entries}
use Rattle.vipr_spec.specs.{Constraint.Row, Fraction.ℚ, Number.number_text}
use Rattle.vipr_linear.specs.declared.constraint.Constraint.{Constraint}
use Rattle.vipr_linear.specs.declared.constraint.Sense.{Sense}
use Rattle.vipr_linear.specs.declared.constraint.Sense.TheVariants.{E, L, G}

abbrev pub sense_text : Sense → List ℕ
sense_text E = codes "E"
sense_text L = codes "L"
sense_text G = codes "G"

-- a variable with its coefficient, each behind a space
abbrev pub entry_text : ℕ × ℚ → List ℕ
entry_text e = codes " " ++ (decimal e.0 ++ (codes " " ++ number_text e.1))

abbrev pub entries_text : List (ℕ × ℚ) → List ℕ
entries_text es = flat_map entry_text es

-- how many variables there are, and then each of them with its coefficient
abbrev pub row_text : Row → List ℕ
row_text row = decimal (length (entries row)) ++ entries_text (entries row)

abbrev pub constraint_text : Constraint → List ℕ
constraint_text c = sense_text c.sense
    ++ (codes " " ++ (number_text c.rhs ++ (codes " " ++ row_text c.row)))
