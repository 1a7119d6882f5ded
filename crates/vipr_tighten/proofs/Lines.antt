-- The lines of solutions, of which some are to come
use Rattle.std.proofs.Common.{◌≡◌, ℕ, suc, ◌+◌, List, [], ◌∷◌, ◌++◌, map, length, codes, arith}
use Rattle.std.proofs.Common.{append_assoc, append-nil, sym, ap, ◌∙◌}
use Rattle.std.proofs.lemmas.Grind.{flat_map-append}
use Rattle.std.proofs.lemmas.List.{length-append, map_push}
use Rattle.vipr_spec.specs.{Certificate.Named, Constraint.Row}
use Rattle.vipr_write.specs.Canonical.{heading, solution_words, line_text, lines_text}
use Rattle.vipr_write.specs.Canonical.{solutions_lines}

-- how many there are, and the lines of these; so many are to come
abbrev pub lines_with : List (Named Row) → ℕ → List ℕ
lines_with ss left =
    line_text (heading (codes "SOL") (length ss + left)) ++ lines_text (map solution_words ss)

pub lines_more : (ss : List (Named Row)) (s : Named Row) (left new : ℕ) → left ≡ suc new
    → lines_with ss left ++ line_text (solution_words s) ≡ lines_with (ss ++ s ∷ []) new
lines_more ss s left new fewer =
    let head = line_text (heading (codes "SOL") (length ss + left)) in
    let count : length ss + left ≡ length (ss ++ s ∷ []) + new =
    (let size = length-append ss (s ∷ []) in omega arith) in
    append_assoc head (lines_text (map solution_words ss)) (line_text (solution_words s))
    ∙ ap (λ t. head ++ (lines_text (map solution_words ss) ++ t)) (sym (append-nil (line_text (solution_words s))))
    ∙ ap (λ t. head ++ t)
    (sym (ap lines_text (map_push solution_words ss s)
    ∙ flat_map-append line_text (map solution_words ss) (solution_words s ∷ [])))
    ∙ ap (λ n. line_text (heading (codes "SOL") n) ++ lines_text (map solution_words (ss ++ s ∷ []))) count

pub lines_whole : (ss : List (Named Row)) (left : ℕ) → left ≡ 0
    → lines_with ss left ≡ lines_text (solutions_lines ss)
lines_whole ss left none = grind arith
