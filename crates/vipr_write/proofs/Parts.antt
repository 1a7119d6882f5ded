-- Numbers, lines and sections in the parts in which they are appended
use Rattle.std.proofs.Common.{◌≡◌, ℕ, List, [], ◌∷◌, ◌++◌, length, map, append_assoc, sym, ap, ◌∙◌, rules}
use Rattle.std.proofs.lemmas.List.{append-nil, length-map}
use Rattle.std.proofs.{lemmas.Grind.flat_map-append, lemmas.List.Folds.flat_map-map}
use Rattle.std.specs.{List.flat_map, Prelude.codes}
use Rattle.vipr_spec.specs.Certificate.{Problem, Derivation, Certificate}
use Rattle.vipr_spec.specs.{Constraint.Row, Number.number_text}
use Rattle.vipr_write.specs.Canonical.{sense_word, reason_words, last_word, direction_word}
use Rattle.vipr_write.specs.Canonical.{vector_words, claim_words, variables_lines, solutions_lines}
use Rattle.vipr_write.specs.Canonical.{words_after_spaces, heading, line_text, lines_text}
use Rattle.vipr_write.specs.Forms.{row_words, constraint_words_in, derivation_words_in}
use Rattle.vipr_write.specs.Forms.{given_words_in, problem_lines_in, derivations_lines_in}
use Rattle.vipr_write.specs.Forms.{certificate_lines_in}
use Rattle.vipr_write.specs.{Lines.words_text, Lines.constraints_heading}
use Rattle.vipr_write.specs.{Lines.constraints_lines_in, declared.form.Form.Form}

words_after_spaces-append : (ws us : List (List ℕ))
    → words_after_spaces (ws ++ us) ≡ words_after_spaces ws ++ words_after_spaces us
words_after_spaces-append ws us = flat_map-append (λ w. 32 ∷ w) ws us

lines_text-append : (ls ms : List (List (List ℕ)))
    → lines_text (ls ++ ms) ≡ lines_text ls ++ lines_text ms
lines_text-append ls ms = flat_map-append line_text ls ms

line_parts : (start name front back last : List ℕ) (ws us : List (List ℕ)) →
    start ++ line_text ((name ∷ ws) ++ front ∷ (us ++ back ∷ last ∷ []))
    ≡ (((((start ++ words_text (name ∷ ws)) ++ 32 ∷ front) ++ words_after_spaces us) ++ 32
    ∷ back) ++ 32 ∷ last) ++ 10 ∷ []
line_parts start name front back last ws us = search (rules, words_after_spaces-append, append_assoc, append-nil)

pub derivation_parts_in : (form : Form) (objective : Row) (start : List ℕ) (d : Derivation) →
    start ++ line_text (derivation_words_in form objective d)
    ≡ (((((start ++ words_text (constraint_words_in form objective d.name d.stated))
    ++ codes " {") ++ words_after_spaces (reason_words d.reason)) ++ codes " }") ++ 32
    ∷ last_word d.last) ++ codes "\n"
derivation_parts_in form objective start d = line_parts start d.name (codes "{") (codes "}")
    (last_word d.last) (sense_word d.stated.sense ∷ number_text d.stated.bound
    ∷ row_words form objective d.stated.row) (reason_words d.reason)

section_parts : (start : List ℕ) (front cons : List (List (List ℕ)))
    (direction vector con claim : List (List ℕ)) →
    start ++ lines_text (front ++ direction ∷ vector ∷ con ∷ (cons ++ claim ∷ []))
    ≡ ((((start ++ lines_text front) ++ line_text direction) ++ line_text vector)
    ++ lines_text (con ∷ cons)) ++ line_text claim
section_parts start front cons direction vector con claim = search (rules, lines_text-append, append_assoc, append-nil)

pub problem_parts_in : (form : Form) (start : List ℕ) (p : Problem) →
    start ++ lines_text (problem_lines_in form p) ≡
    ((((start ++ lines_text (variables_lines p))
    ++ line_text (codes "OBJ" ∷ direction_word p.direction ∷ []))
    ++ line_text (vector_words p.objective))
    ++ lines_text (constraints_lines_in form p.objective p.constraints p.bound_count))
    ++ line_text (claim_words p.claim)
problem_parts_in form start p = section_parts start (variables_lines p)
    (map (given_words_in form p.objective) p.constraints)
    (codes "OBJ" ∷ direction_word p.direction ∷ []) (vector_words p.objective)
    (constraints_heading p.bound_count (length p.constraints)) (claim_words p.claim)

three_parts : (ls ms ns : List (List (List ℕ)))
    → lines_text (ls ++ (ms ++ ns)) ≡ (lines_text ls ++ lines_text ms) ++ lines_text ns
three_parts ls ms ns = lines_text-append ls (ms ++ ns)
    ∙ ap (λ t. lines_text ls ++ t) (lines_text-append ms ns)
    ∙ sym (append_assoc (lines_text ls) (lines_text ms) (lines_text ns))

pub certificate_parts : (form : Form) (c : Certificate) → lines_text (certificate_lines_in form c)
    ≡ (lines_text (problem_lines_in form c.problem) ++ lines_text (solutions_lines c.solutions))
    ++ lines_text (derivations_lines_in form c.problem.objective c.derivations)
certificate_parts form c = three_parts (problem_lines_in form c.problem)
    (solutions_lines c.solutions) (derivations_lines_in form c.problem.objective c.derivations)

-- a heading that says how many items there are, and a line for each of them
pub headed : {X Y : Type 0} (start : List ℕ) (heading : ℕ → List (List ℕ))
    (words : Y → List (List ℕ)) (view : X → Y) (xs : List X) →
    start ++ lines_text (heading (length (map view xs)) ∷ map words (map view xs))
    ≡ (start ++ line_text (heading (length xs)))
    ++ flat_map (λ x. line_text (words (view x))) xs
headed start heading words view xs = search (rules, length-map, flat_map-map, append_assoc)
