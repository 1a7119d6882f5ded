-- What a heap of pairs says of the last derivations in it.
use Rattle.std.proofs.Common.{◌≡◌, ℕ, ◌<◌, List, [], ◌∷◌, length, All, map, get_or, sym, ◌∙◌, arith}
use Rattle.std.specs.{BinaryHeap.IsUpperBound, declared.cmp.Reverse.Reverse}
use Rattle.vipr_table.specs.Expiry.{due_cmp}

-- no last derivation is below the top's
pub All-below_top : (now : ℕ) (x : Reverse (ℕ × ℕ)) (xs : List (Reverse (ℕ × ℕ))) → now < x.0.0
    → IsUpperBound due_cmp x xs → All (λ d. now < d.0) (map (λ (r : Reverse (ℕ × ℕ)). r.0) xs)
All-below_top now x [] h bound = λ k d lt. absurd (omega arith)
All-below_top now x (y ∷ ys) h bound = grind (arith, All-below_top now x ys h bound.1)

-- the front of a list, read twice
pub same_front : {X : Type 0} (xs : List X) (x y : X) → 0 < length xs → x ≡ get_or xs 0 x
    → y ≡ get_or xs 0 y → x ≡ y
same_front [] x y some p q = absurd (omega arith)
same_front (z ∷ zs) x y some p q = p ∙ sym q
