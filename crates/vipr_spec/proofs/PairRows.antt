-- Rows of pairs of a variable and a coefficient, and sets of variables
use Rattle.std.proofs.Common.{◌≡◌, ◌≢◌, ℕ, ◌<◌, ◌≤◌, true, nat_eq, not, List, [], ◌∷◌}
use Rattle.std.proofs.Common.{filter, None, unwrap_or, All, pos, arith, refl, sym, ap, ◌∙◌}
use Rattle.std.proofs.lemmas.Bool.Decides.{nat_tests, Decides-int_eq}
use Rattle.std.proofs.lemmas.List.Elements.{All-head, All-tail}
use Rattle.std.proofs.lemmas.List.Folds.{Any-from_list_any}
use Rattle.std.specs.{Cmp.nat_cmp_total, FinMap.find, FinMap.get-from_entries, FinSet.from_list}
use Rattle.std.specs.{FinSet.contains-from_list_nat, Ordering.nat_cmp, Ordering.int_eq}
use Rattle.vipr_spec.specs.{ℚ, zero_ℚ, IsInteger, at, NamesBelow, is_nonzero, row_of}
use Rattle.vipr_spec.proofs.Fractions.{zero_numer}

pub not_zero : (x : ℚ) → not (int_eq x.numer (pos 0)) ≡ true → x ≢ zero_ℚ
not_zero x t e = let n = ap (λ (z : ℚ). z.numer) e ∙ zero_numer in let f = (Decides-int_eq x.numer (pos 0)).1 n in cc

not_found : (n j : ℕ) → n ≤ j → (ps : List (ℕ × ℚ)) → All (λ p. p.0 < n) ps
    → find nat_cmp j (filter is_nonzero ps) ≡ None
not_found n j h [] a = refl
not_found n j h (p ∷ ps) a =
    grind (
      arith,
      All-head (λ (p : ℕ × ℚ). p.0 < n) p ps a,
      not_found n j h ps (All-tail (λ (p : ℕ × ℚ). p.0 < n) p ps a),
    )

-- the row of pairs of variables below n names no other
pub row_below : (n : ℕ) (ps : List (ℕ × ℚ)) → All (λ p. p.0 < n) ps → NamesBelow n (at (row_of ps))
row_below n ps a j h =
    ap (λ o. unwrap_or o zero_ℚ) (get-from_entries nat_cmp_total (filter is_nonzero ps) j
    ∙ not_found n j h ps a)

same_number : (x j n : ℕ) → nat_eq x j ≡ true → x < n → j < n
same_number x j n e h = grind (arith, nat_tests)

-- the set of variables below n has no other
pub set_below : (n : ℕ) (is : List ℕ) → All (λ i. i < n) is → (j : ℕ) → IsInteger (from_list is) j
    → j < n
set_below n is a j h = grind (arith, Any-from_list_any (λ y. nat_eq y j) is (sym (contains-from_list_nat is j) ∙ h))
