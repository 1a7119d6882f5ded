-- The canonical text of a certificate: its lines, each of them words with a space between them and
-- a line feed at the end
use Rattle.std.specs.Prelude.{ℕ, List, [], ◌∷◌, ◌++◌, length, map, flat_map, Option, Some, None}
use Rattle.std.specs.Prelude.{codes}
use Rattle.std.specs.{FinMap.entries, Fmt.decimal}
use Rattle.vipr_spec.specs.Constraint.{Sense, at_most, equal, at_least, Row, Constraint}
use Rattle.vipr_spec.specs.Certificate.{Name, Named, Direction, minimum, maximum, Claim, infeasible}
use Rattle.vipr_spec.specs.Certificate.{range, Problem, variables, integer_variables, Reason}
use Rattle.vipr_spec.specs.Certificate.{References, no_references, by_entries, by_branches}
use Rattle.vipr_spec.specs.Certificate.{reason_references, Derivation, Certificate}
use Rattle.vipr_spec.specs.{Fraction.ℚ, Number.number_text}
use Rattle.vipr_cert.specs.Reasons.{reason_word}

-- ---- words

-- an index or a count, and a number
abbrev pub pair_words : ℕ × ℚ → List (List ℕ)
pair_words p = decimal p.0 ∷ number_text p.1 ∷ []

-- how many there are, and then each of them
abbrev pub counted_words : List (ℕ × ℚ) → List (List ℕ)
counted_words ps = decimal (length ps) ∷ flat_map pair_words ps

-- the variables in rising order
abbrev pub vector_words : Row → List (List ℕ)
vector_words row = counted_words (entries row)

abbrev pub sense_word : Sense → List ℕ
sense_word equal = codes "E"
sense_word at_most = codes "L"
sense_word at_least = codes "G"

abbrev pub direction_word : Direction → List ℕ
direction_word minimum = codes "min"
direction_word maximum = codes "max"

-- a bound of the claim, with how it is written if it is infinite
abbrev pub bound_word : List ℕ → Option ℚ → List ℕ
bound_word infinite None = infinite
bound_word infinite (Some x) = number_text x

abbrev pub last_word : Option ℕ → List ℕ
last_word None = codes "-1"
last_word (Some i) = decimal i

abbrev pub constraint_words : Name → Constraint → List (List ℕ)
constraint_words name c = name ∷ sense_word c.sense ∷ number_text c.bound ∷ vector_words c.row

abbrev pub given_words : Named Constraint → List (List ℕ)
given_words n = constraint_words n.name n.item

abbrev pub claim_words : Claim → List (List ℕ)
claim_words infeasible = codes "RTP" ∷ codes "infeas" ∷ []
claim_words (range lower upper) = codes "RTP" ∷ codes "range" ∷ bound_word (codes "-inf") lower
    ∷ bound_word (codes "inf") upper ∷ []

abbrev pub solution_words : Named Row → List (List ℕ)
solution_words s = s.name ∷ vector_words s.item

-- what a reason names
abbrev pub reference_words : References → List (List ℕ)
reference_words no_references = []
reference_words (by_entries es) = counted_words es
reference_words (by_branches i1 l1 i2 l2) =
    decimal i1 ∷ decimal l1 ∷ decimal i2 ∷ decimal l2 ∷ []

abbrev pub reason_words : Reason → List (List ℕ)
reason_words r = reason_word r ∷ reference_words (reason_references r)

abbrev pub derivation_words : Derivation → List (List ℕ)
derivation_words d = constraint_words d.name d.stated ++ codes "{"
    ∷ (reason_words d.reason ++ codes "}" ∷ last_word d.last ∷ [])

-- ---- lines

-- a keyword and a count
abbrev pub heading : List ℕ → ℕ → List (List ℕ)
heading keyword n = keyword ∷ decimal n ∷ []

abbrev pub variables_lines : Problem → List (List (List ℕ))
variables_lines p =
    (codes "VER" ∷ codes "1.0" ∷ []) ∷
    heading (codes "VAR") (variables p) ∷ (map (λ name. name ∷ []) p.names ++
    heading (codes "INT") (length (integer_variables p))
    ∷ map (λ j. decimal j ∷ []) (integer_variables p))

abbrev pub problem_lines : Problem → List (List (List ℕ))
problem_lines p =
    variables_lines p ++
    (codes "OBJ" ∷ direction_word p.direction ∷ []) ∷ vector_words p.objective ∷
    (codes "CON" ∷ decimal (length p.constraints) ∷ decimal p.bound_count ∷ [])
    ∷ (map given_words p.constraints ++
    claim_words p.claim ∷ [])

abbrev pub solutions_lines : List (Named Row) → List (List (List ℕ))
solutions_lines ss = heading (codes "SOL") (length ss) ∷ map solution_words ss

abbrev pub derivations_lines : List Derivation → List (List (List ℕ))
derivations_lines ds = heading (codes "DER") (length ds) ∷ map derivation_words ds

abbrev pub certificate_lines : Certificate → List (List (List ℕ))
certificate_lines c = problem_lines c.problem
    ++ (solutions_lines c.solutions ++ derivations_lines c.derivations)

-- ---- bytes

-- each word behind a space
abbrev pub words_after_spaces : List (List ℕ) → List ℕ
words_after_spaces ws = flat_map (λ w. 32 ∷ w) ws

abbrev pub line_text : List (List ℕ) → List ℕ
line_text [] = 10 ∷ []
line_text (w ∷ ws) = w ++ (words_after_spaces ws ++ 10 ∷ [])

abbrev pub lines_text : List (List (List ℕ)) → List ℕ
lines_text ls = flat_map line_text ls

abbrev pub canonical_text : Certificate → List ℕ
canonical_text c = lines_text (certificate_lines c)
