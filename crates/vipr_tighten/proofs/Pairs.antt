-- Entries of one kind, each as the index and the multiplier that it stands for
use Rattle.std.proofs.Common.{◌≡◌, ℕ, ◌<◌, ◌≤◌, Bool, true, false, List, [], ◌∷◌, map, take, filter}
use Rattle.std.proofs.Common.{length, cond, get_or, arith, refl, sym, ap, ◌∙◌}
use Rattle.std.proofs.lemmas.List.{get_or-map, length-map, take_all}
use Rattle.vipr_spec.specs.{Fraction.ℚ, Reading.is_nonzero}

module _ {E : Type 0} (pair : E → ℕ × ℚ) (es : List E) where
  module _ (i : ℕ) where
    pub pair_inside : i < length es → i < length (map pair es)
    pair_inside h = let e = length-map es pair in omega arith

    pub pair_read : (e : E) → i < length es → e ≡ get_or es i e → pair e ≡ get_or (map pair es) i (pair e)
    pair_read e h is = ap pair is ∙ sym (get_or-map pair es i e (pair e) h)

    pub all_pairs : length es ≤ i → take i (map pair es) ≡ map pair es
    all_pairs h = take_all i (map pair es) (let e = length-map es pair in omega arith)

pub pair_filter : {E : Type 0} (pair : E → ℕ × ℚ) (es : List E)
    → map pair (filter (λ e. is_nonzero (pair e)) es) ≡ filter is_nonzero (map pair es)
pair_filter pair [] = refl
pair_filter pair (x ∷ es) = by (is_nonzero (pair x)) (pair_filter pair es)
  where
    by : (b : Bool) → map pair (filter (λ e. is_nonzero (pair e)) es) ≡ filter is_nonzero (map pair es)
        → map pair (cond b (x ∷ filter (λ e. is_nonzero (pair e)) es)
        (filter (λ e. is_nonzero (pair e)) es)) ≡ cond b
        (pair x ∷ filter is_nonzero (map pair es)) (filter is_nonzero (map pair es))
    by true rest = ap (λ l. pair x ∷ l) rest
    by false rest = rest
