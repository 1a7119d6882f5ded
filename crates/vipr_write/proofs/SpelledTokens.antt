-- Each name that a list of tokens spells is one of them
use Rattle.std.proofs.Common.{ℕ, ◌+◌, ◌≤◌, List, [], ◌∷◌, length, map, All}
use Rattle.std.proofs.lemmas.List.Elements.{All-nil, All-cons, All-map}
use Rattle.vipr_spec.specs.Tokens.{Token, text_tokens, IsRun, IsToken, AreSpread}
use Rattle.vipr_spec.specs.Reading.{most_bytes}
use Rattle.vipr_spec.proofs.Laws.{split_is}

-- ---- the tokens of a text
spread_runs : (offset : ℕ) (text : List ℕ) (ts : List Token) → AreSpread offset text ts
    → All (λ t. IsRun t.bytes) ts
unfolding AreSpread
spread_runs offset text [] s = All-nil (λ (t : Token). IsRun t.bytes)
spread_runs offset text (t ∷ ts) s = All-cons (λ (t : Token). IsRun t.bytes) t ts s.4
    (spread_runs (t.offset + length t.bytes) s.1 ts s.7)

text_runs : (text : List ℕ) → All IsRun (map (λ (t : Token). t.bytes) (text_tokens text))
text_runs text =
    let s = split_is text in
    All-map IsRun (λ (t : Token). t.bytes) (text_tokens text) (spread_runs (length s.0) s.1 (text_tokens text) s.4)

-- those that are short enough are tokens
pub short_tokens : (text : List ℕ)
    → All (λ t. length t ≤ most_bytes) (map (λ (t : Token). t.bytes) (text_tokens text))
    → All IsToken (map (λ (t : Token). t.bytes) (text_tokens text))
short_tokens text short k d h = record { run = text_runs text k d h; short = short k d h }
