-- The text of a certificate in either form. In the compact one the word OBJ means a row of a
-- constraint or a derivation that is the objective's; an empty row is 0 in both
use Rattle.std.specs.Prelude.{ℕ, ◌&&◌, Bool, nat_eq, nat_lt, if◌then◌else◌, List, [], ◌∷◌, ◌++◌}
use Rattle.std.specs.Prelude.{length, map, codes}
use Rattle.std.specs.{Cmp.Lexicographic.pointwise, FinMap.entries, Fmt.decimal}
use Rattle.vipr_spec.specs.Constraint.{Row, Constraint}
use Rattle.vipr_spec.specs.Certificate.{Name, Named, Problem, Derivation, Certificate}
use Rattle.vipr_spec.specs.{Fraction.ℚ, FractionOrder.eq_ℚ, Number.number_text}
use Rattle.vipr_write.specs.Canonical.{vector_words, sense_word, reason_words, last_word}
use Rattle.vipr_write.specs.Canonical.{direction_word, claim_words, variables_lines, heading}
use Rattle.vipr_write.specs.Canonical.{solutions_lines, lines_text}
use Rattle.vipr_write.specs.declared.form.Form.{Form}
use Rattle.vipr_write.specs.declared.form.Form.TheVariants.{Canonical, Compact}

-- ---- words

-- the same variables, with the same coefficients
abbrev pub are_same : List (ℕ × ℚ) → List (ℕ × ℚ) → Bool
are_same ds es = pointwise (λ (d e : ℕ × ℚ). nat_eq d.0 e.0 && eq_ℚ d.1 e.1) ds es

-- the row is the objective's, and isn't empty
abbrev pub is_objective : Row → Row → Bool
is_objective objective row = are_same (entries row) (entries objective)
    && nat_lt 0 (length (entries row))

abbrev pub row_words : Form → Row → Row → List (List ℕ)
row_words Canonical objective row = vector_words row
row_words Compact objective row =
    if is_objective objective row then codes "OBJ" ∷ [] else vector_words row

abbrev pub constraint_words_in : Form → Row → Name → Constraint → List (List ℕ)
constraint_words_in form objective name c =
    name ∷ sense_word c.sense ∷ number_text c.bound ∷ row_words form objective c.row

abbrev pub given_words_in : Form → Row → Named Constraint → List (List ℕ)
given_words_in form objective n = constraint_words_in form objective n.name n.item

abbrev pub derivation_words_in : Form → Row → Derivation → List (List ℕ)
derivation_words_in form objective d = constraint_words_in form objective d.name d.stated
    ++ codes "{" ∷ (reason_words d.reason ++ codes "}" ∷ last_word d.last ∷ [])

-- ---- lines

abbrev pub problem_lines_in : Form → Problem → List (List (List ℕ))
problem_lines_in form p =
    variables_lines p ++
    (codes "OBJ" ∷ direction_word p.direction ∷ []) ∷ vector_words p.objective ∷
    (codes "CON" ∷ decimal (length p.constraints) ∷ decimal p.bound_count ∷ [])
    ∷ (map (given_words_in form p.objective) p.constraints ++
    claim_words p.claim ∷ [])

abbrev pub derivations_lines_in : Form → Row → List Derivation → List (List (List ℕ))
derivations_lines_in form objective ds =
    heading (codes "DER") (length ds) ∷ map (derivation_words_in form objective) ds

abbrev pub certificate_lines_in : Form → Certificate → List (List (List ℕ))
certificate_lines_in form c = problem_lines_in form c.problem
    ++ (solutions_lines c.solutions
    ++ derivations_lines_in form c.problem.objective c.derivations)

-- ---- bytes

abbrev pub text_in : Form → Certificate → List ℕ
text_in form c = lines_text (certificate_lines_in form c)

abbrev pub compact_text : Certificate → List ℕ
compact_text c = text_in Compact c
