-- The tokens of lines are their words
use Rattle.std.proofs.Common.{◌≡◌, ℕ, ◌+◌, ◌≤◌, false, List, [], ◌∷◌, ◌++◌, length, map, All, arith}
use Rattle.std.proofs.Common.{refl, sym, ap, ◌∙◌, subst, append_assoc}
use Rattle.std.proofs.lemmas.List.Elements.{All-head, All-tail}
use Rattle.std.proofs.Math.Seq.{take-append_seam, drop-append_seam}
use Rattle.std.proofs.{Math.ListN.get_or-append, lemmas.List.length-append}
use Rattle.std.specs.List.{flat_map}
use Rattle.vipr_spec.specs.Tokens.{Token, is_white, tokens_from, tokens_after_front, text_tokens}
use Rattle.vipr_spec.specs.Tokens.{Begins, IsWhite, IsRun, IsToken}
use Rattle.vipr_spec.proofs.Laws.{token_whole, all_parts, first_white}
use Rattle.vipr_write.specs.Canonical.{words_after_spaces, line_text, lines_text}

abbrev pub bytes_of : List Token → List (List ℕ)
bytes_of ts = map (λ t. t.bytes) ts

-- behind the front, the text has these tokens
abbrev pub HasTokens : List ℕ → List (List ℕ) → Type 0
HasTokens text ws = (offset : ℕ) → bytes_of (tokens_from false false offset text) ≡ ws

nothing : HasTokens [] []
unfolding tokens_from
nothing offset = refl

first_is_white : (offset b : ℕ) (text : List ℕ) → IsWhite b
    → tokens_from false false offset (b ∷ text) ≡ tokens_from false false (offset + 1) text
unfolding tokens_from
first_is_white offset b text white = rw white refl

white_first : (b : ℕ) (text : List ℕ) (ws : List (List ℕ)) → IsWhite b → HasTokens text ws
    → HasTokens (b ∷ text) ws
white_first b text ws white h offset = ap bytes_of (first_is_white offset b text white) ∙ h (offset + 1)

word_first : (w after : List ℕ) (ws : List (List ℕ)) → IsRun w → Begins IsWhite after
    → HasTokens after ws → HasTokens (w ++ after) (w ∷ ws)
word_first w after ws solid begins h offset =
    let within : length w ≤ length (w ++ after) = omega (arith, length-append w after) in
    let e = token_whole false offset (w ++ after) (length w) solid.some within
    (λ k l. rw (get_or-append w after 0 k l) (solid.solid k l)) (first_white w after begins)
    (λ _. refl) in
    let f = rw (take-append_seam w after, drop-append_seam w after) at e in
    ap bytes_of f ∙ ap (λ us. w ∷ us) (h (offset + length w))

-- the rest of a line, and what follows it
spaced_begin : (ws : List (List ℕ)) (text : List ℕ)
    → Begins IsWhite (words_after_spaces ws ++ 10 ∷ text)
unfolding is_white
spaced_begin [] text = refl
spaced_begin (w ∷ ws) text = refl

is_space : IsWhite 32
unfolding is_white
is_space = refl

is_line_feed : IsWhite 10
unfolding is_white
is_line_feed = refl

words_behind : (ws : List (List ℕ)) (text : List ℕ) (us : List (List ℕ)) → All IsToken ws
    → HasTokens text us → HasTokens (words_after_spaces ws ++ 10 ∷ text) (ws ++ us)
words_behind [] text us tokens h = white_first 10 text us is_line_feed h
words_behind (w ∷ ws) text us tokens h =
    let first : IsToken w = All-head IsToken w ws tokens in
    let rest = words_behind ws text us (All-tail IsToken w ws tokens) h in
    let all = white_first 32 _ _ is_space
    (word_first w (words_after_spaces ws ++ 10 ∷ text) (ws ++ us) first.run
    (spaced_begin ws text) rest) in
    subst (λ t. HasTokens (32 ∷ t) (w ∷ (ws ++ us))) (sym (append_assoc w (words_after_spaces ws) (10 ∷ text))) all

line_first : (ws : List (List ℕ)) (text : List ℕ) (us : List (List ℕ)) → All IsToken ws
    → HasTokens text us → HasTokens (line_text ws ++ text) (ws ++ us)
line_first [] text us tokens h = white_first 10 text us is_line_feed h
line_first (w ∷ ws) text us tokens h =
    let first : IsToken w = All-head IsToken w ws tokens in
    let rest = words_behind ws text us (All-tail IsToken w ws tokens) h in
    let e : (w ++ (words_after_spaces ws ++ 10 ∷ [])) ++ text ≡ w
    ++ (words_after_spaces ws ++ 10 ∷ text) = simp append_assoc in
    subst (λ t. HasTokens t (w ∷ (ws ++ us))) (sym e)
    (word_first w (words_after_spaces ws ++ 10 ∷ text) (ws ++ us) first.run
    (spaced_begin ws text) rest)

abbrev pub words_of : List (List (List ℕ)) → List (List ℕ)
words_of ls = flat_map (λ l. l) ls

pub lines_tokens : (ls : List (List (List ℕ))) → All IsToken (words_of ls)
    → HasTokens (lines_text ls) (words_of ls)
lines_tokens [] tokens = nothing
lines_tokens (l ∷ ls) tokens =
    let parts = all_parts IsToken l (words_of ls) tokens in
    line_first l (lines_text ls) (words_of ls) parts.0 (lines_tokens ls parts.1)

-- what begins with the letter V has no white space or comment before its first token
pub no_front : (text : List ℕ) → text_tokens (86 ∷ text) ≡ tokens_from false false 0 (86 ∷ text)
unfolding tokens_after_front is_white
no_front text = refl
