-- Parts of the canonical text
use Rattle.std.specs.Prelude.{ℕ, ℤ, ◌==◌, if◌then◌else◌, List, [], ◌∷◌, ◌++◌, length, map, codes}
use Rattle.std.specs.Fmt.{decimal, signed_decimal}
use Rattle.vipr_spec.specs.{Certificate.Named, Constraint.Row, Constraint.Constraint}
use Rattle.vipr_write.specs.Canonical.{heading, words_after_spaces}
use Rattle.vipr_write.specs.{Forms.given_words_in, declared.form.Form.Form}

-- the text of a number of these parts
abbrev pub parts_text : ℤ → ℕ → List ℕ
parts_text p q = if q == 1 then signed_decimal p else signed_decimal p ++ 47 ∷ decimal q

-- a line without its line feed
abbrev pub words_text : List (List ℕ) → List ℕ
words_text [] = []
words_text (w ∷ ws) = w ++ words_after_spaces ws

-- how many integer variables there are, and then each of them
abbrev pub integers_lines : List ℕ → List (List (List ℕ))
integers_lines js = heading (codes "INT") (length js) ∷ map (λ j. decimal j ∷ []) js

-- how many constraints there are, and how many of them are bounds
abbrev pub constraints_heading : ℕ → ℕ → List (List ℕ)
constraints_heading bound_count n = codes "CON" ∷ decimal n ∷ decimal bound_count ∷ []

abbrev pub constraints_lines_in : Form → Row → List (Named Constraint) → ℕ → List (List (List ℕ))
constraints_lines_in form objective cs bound_count =
    constraints_heading bound_count (length cs) ∷ map (given_words_in form objective) cs
