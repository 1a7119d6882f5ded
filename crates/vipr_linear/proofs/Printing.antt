-- The text of a row, entry by entry
use Rattle.std.proofs.Common.{◌≡◌, ℕ, ◌+◌, ◌<◌, List, [], ◌∷◌, ◌++◌, length, take, get_or, sym, ap}
use Rattle.std.proofs.Common.{◌∙◌}
use Rattle.std.proofs.lemmas.List.{append-nil, append_assoc, take_more}
use Rattle.std.proofs.lemmas.List.Concat.{flat_map-append}
use Rattle.vipr_spec.specs.Fraction.{ℚ}
use Rattle.vipr_linear.specs.Text.{entry_text, entries_text}

pub entries_more : (es : List (ℕ × ℚ)) (n : ℕ) (e d : ℕ × ℚ) → n < length es → e ≡ get_or es n d
    → entries_text (take n es) ++ entry_text e ≡ entries_text (take (n + 1) es)
entries_more es n e d within this = sym (
    ap entries_text (take_more es n d within ∙ ap (λ y. take n es ++ y ∷ []) (sym this))
    ∙ flat_map-append entry_text (take n es) (e ∷ [])
    ∙ ap (λ l. entries_text (take n es) ++ l) (append-nil (entry_text e)))

-- the same behind what was written before
pub behind_more : (head : List ℕ) (es : List (ℕ × ℚ)) (n : ℕ) (e d : ℕ × ℚ) → n < length es
    → e ≡ get_or es n d
    → (head ++ entries_text (take n es)) ++ entry_text e ≡ head ++ entries_text (take (n + 1) es)
behind_more head es n e d within this =
    append_assoc head (entries_text (take n es)) (entry_text e)
    ∙ ap (λ l. head ++ l) (entries_more es n e d within this)
