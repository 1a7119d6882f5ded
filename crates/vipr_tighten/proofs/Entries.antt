-- Entries under new indices, one after the other
use Rattle.std.proofs.Common.{rules, ◌≡◌, ℕ, zero, suc, ◌+◌, ◌<◌, List, [], ◌∷◌, ◌++◌, take, drop}
use Rattle.std.proofs.Common.{map, length, get_or, arith, refl, sym, ◌∙◌, ap}
use Rattle.std.proofs.Math.ListN.{set}
use Rattle.std.proofs.lemmas.List.{drop_all, get_or_read_under, take_all}
use Rattle.vipr_spec.specs.Fraction.{ℚ}
use Rattle.vipr_tighten.specs.Passes.{index_by}

-- the first i are changed
abbrev part : {A : Type 0} (g : A → A) (i : ℕ) (xs : List A) → List A
part g i xs = map g (take i xs) ++ drop i xs

at_part : {A : Type 0} (g : A → A) (xs : List A) (i : ℕ) (d : A) → i < length xs
    → get_or (part g i xs) i d ≡ get_or xs i d
at_part g [] i d h = absurd (omega arith)
at_part g (x ∷ xs) zero d h = refl
at_part g (x ∷ xs) (suc i) d h = at_part g xs i d (omega arith)

set_part : {A : Type 0} (g : A → A) (xs : List A) (i : ℕ) (x : A) → i < length xs
    → x ≡ get_or xs i x → set (part g i xs) i (g x) ≡ part g (suc i) xs
set_part g [] i x h e = absurd (omega arith)
set_part g (y ∷ xs) zero x h e = ap (λ z. g z ∷ xs) e
set_part g (y ∷ xs) (suc i) x h e = ap (λ l. g y ∷ l) (set_part g xs i x (omega arith) e)

part_size : {A : Type 0} (g : A → A) (xs : List A) (i : ℕ) → length (part g i xs) ≡ length xs
part_size g [] i = by i
  where
    by : (i : ℕ) → length (part g i []) ≡ 0
    by zero = refl
    by (suc i) = refl
part_size g (x ∷ xs) zero = refl
part_size g (x ∷ xs) (suc i) = ap suc (part_size g xs i)

abbrev pub under : ℕ → List ℕ → ℕ × ℚ → ℕ × ℚ
under first table e = (index_by first table e.0, e.1)

-- the first i have their new indices
pub record EntriesSoFar (first : ℕ) (table : List ℕ) (old : List (ℕ × ℚ)) (i : ℕ) (now : List (ℕ × ℚ)) : Type 0 where
  pub those : now ≡ part (under first table) i old

module _ (first : ℕ) (table : List ℕ) (old : List (ℕ × ℚ)) where
  module _ (i : ℕ) (now : List (ℕ × ℚ)) (h : i < length old)
      (so_far : EntriesSoFar first table old i now) (x : ℕ × ℚ) (is : x ≡ get_or now i x) where
    old_one : x ≡ get_or old i x
    old_one = is ∙ ap (λ l. get_or l i x) so_far.those ∙ at_part (under first table) old i x h

    size : length now ≡ length old
    size = ap length so_far.those ∙ part_size (under first table) old i

    -- another reading of it
    pub same_entry : (y : ℕ × ℚ) → y ≡ get_or now i y → y ≡ x
    same_entry y e = let s = size in get_or_read_under now i (length now) y x e (omega arith) refl ∙ sym is

    pub next_entry : EntriesSoFar first table old (i + 1) (set now i (under first table x))
    next_entry = grind (arith, set_part (under first table) old i x h old_one)

  pub all_entries : (i : ℕ) (now : List (ℕ × ℚ)) → EntriesSoFar first table old i now
      → length old < i + 1 → now ≡ map (under first table) old
  all_entries i now so_far far = search (rules, take_all, drop_all)
