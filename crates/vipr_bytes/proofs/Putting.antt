-- A text that is put piece by piece
use Rattle.std.proofs.Common.{◌≡◌, ℕ, ◌+◌, ◌<◌, ◌≤◌, List, [], ◌∷◌, ◌++◌, length, map, take, get_or}
use Rattle.std.proofs.Common.{sym, ap, ◌∙◌, subst, append_assoc}
use Rattle.std.proofs.lemmas.List.{append-nil, take_all, take_more}
use Rattle.std.proofs.{lemmas.Grind.flat_map-append, lemmas.List.Folds.flat_map-map}
use Rattle.std.specs.List.{flat_map}
use Rattle.vipr_bytes.specs.Puts.{Puts}

module _ {S : Type 0} {carries : S → List ℕ → S → Type 0} where
  -- one piece behind another
  pub puts_then : {s t u : S} {a b : List ℕ} → Puts carries s t a → Puts carries t u b
      → Puts carries s u (a ++ b)
  puts_then {s} {t} {u} {a} {b} first second = record {
    law = λ start text c. subst (λ x. carries start x u) (append_assoc text a b)
        (second.law start (text ++ a) (first.law start text c));
  }

  -- the same bytes
  pub puts_same : {s t : S} {a b : List ℕ} → a ≡ b → Puts carries s t a → Puts carries s t b
  puts_same {s} {t} e m = subst (λ x. Puts carries s t x) e m

  -- a part for each item of a list
  pub puts_next_or : {X : Type 0} {s t u : S} (part : X → List ℕ) (xs : List X) (i : ℕ) (d : X)
      → i < length xs → Puts carries s t (flat_map part (take i xs))
      → Puts carries t u (part (get_or xs i d)) → Puts carries s u (flat_map part (take (i + 1) xs))
  puts_next_or part xs i d l first next =
      puts_same (sym (ap (flat_map part) (take_more xs i d l)
      ∙ flat_map-append part (take i xs) (get_or xs i d ∷ [])
      ∙ ap (λ x. flat_map part (take i xs) ++ x) (append-nil (part (get_or xs i d)))))
      (puts_then first next)

  pub puts_next : {X : Type 0} {s t u : S} (part : X → List ℕ) (xs : List X) (i : ℕ) (x : X)
      → i < length xs → x ≡ get_or xs i x → Puts carries s t (flat_map part (take i xs))
      → Puts carries t u (part x) → Puts carries s u (flat_map part (take (i + 1) xs))
  puts_next part xs i x l e first next = puts_next_or part xs i x l first (puts_same (ap part e) next)

  pub puts_all : {X : Type 0} {s t : S} (part : X → List ℕ) (xs : List X) (i : ℕ) → length xs ≤ i
      → Puts carries s t (flat_map part (take i xs)) → Puts carries s t (flat_map part xs)
  puts_all part xs i l m = puts_same (ap (flat_map part) (take_all i xs l)) m

  -- the lines that are made of the items
  pub puts_lines : {X L : Type 0} {s t : S} (text : L → List ℕ) (line : X → L) (xs : List X) (i : ℕ)
      → length xs ≤ i → Puts carries s t (flat_map (λ x. text (line x)) (take i xs))
      → Puts carries s t (flat_map text (map line xs))
  puts_lines text line xs i l m = puts_same (sym (flat_map-map text line xs)) (puts_all (λ x. text (line x)) xs i l m)
