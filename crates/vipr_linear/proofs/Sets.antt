-- A rising list of variables, as a set
use Rattle.std.proofs.Common.{◌≡◌, ℕ, ◌<◌, ◌≤◌, true, false, ◌||◌, nat_eq, List, [], ◌∷◌, length}
use Rattle.std.proofs.Common.{get_or, Result, Ok, Err, is_ok, MatchResult, sym, ap, ◌∙◌, arith, ◌⊎◌}
use Rattle.std.proofs.Common.{inl, inr}
use Rattle.std.proofs.lemmas.Bool.Decides.{nat_tests, same_from_decides, Decides-eqb}
use Rattle.std.proofs.lemmas.List.Folds.{list_any_at, list_any_none}
use Rattle.std.proofs.lemmas.List.Kept.{Contains-dedup_nat, Contains-from_dedup}
use Rattle.std.proofs.lemmas.List.Sorted.{searched, Contains-permutation, IsPermutation-sym}
use Rattle.std.proofs.lemmas.Map.Keys.{below_from_sorted, sorted_from_strictly_increasing}
use Rattle.std.proofs.lemmas.Map.Keys.{IsStrictlyIncreasing-dedup}
use Rattle.std.proofs.{lemmas.Bool.cases_lt, lemmas.List.Elements.All-from_get_or}
use Rattle.std.proofs.{lemmas.List.Filters.dedup_is, lemmas.Map.Made.is_member-Decides}
use Rattle.std.specs.FinSet.{contains, from_list, same_set, nat_cmp-IsAntisymmetric, contains-empty}
use Rattle.std.specs.FinSet.{contains-insert}
use Rattle.std.specs.List.Sorted.{IsPermutation, IsSorted, IsStrictlyIncreasing}
use Rattle.std.specs.List.Sorted.{IsBinarySearchResult}
use Rattle.std.specs.{Cmp.nat_cmp_total, Cmp.unsigned_tied, List.list_any, List.dedup}
use Rattle.std.specs.{List.Retain.IsFiltered, List.Retain.DiffersFromLast, Ordering.nat_cmp}

-- whether a list's set has a number
pub member : (ks : List ℕ) (q : ℕ)
    → contains (from_list {R = nat_cmp} ks) q ≡ list_any (nat_eq q) ks
member [] q = contains-empty nat_cmp q
member (k ∷ ks) q = contains-insert nat_cmp_total _ k q ∙ (λ i. unsigned_tied q k i || member ks q i)

-- what a sort and the removal of repeats leave makes the same set
pub deduped_seen : (xs ys zs : List ℕ) → IsPermutation xs ys
    → IsFiltered (DiffersFromLast nat_eq) [] ys zs → from_list {R = nat_cmp} zs ≡ from_list xs
deduped_seen xs ys zs p f = same_set nat_cmp_total nat_cmp-IsAntisymmetric _ _ (λ q.
    member zs q
    ∙ ap (list_any (nat_eq q)) (dedup_is nat_eq ys zs f)
    ∙ same_from_decides _ _ (is_member-Decides Decides-eqb (dedup nat_eq ys) q) (
      λ t. Contains-dedup_nat ys q
          (Contains-permutation xs ys q p ((is_member-Decides Decides-eqb xs q).0 t)),
      λ h. (is_member-Decides Decides-eqb xs q).1
          (Contains-permutation ys xs q (IsPermutation-sym xs ys p)
          (Contains-from_dedup nat_eq ys q h)),
    )
    ∙ sym (member xs q))

pub deduped_rises : (ys zs : List ℕ) → IsSorted nat_cmp ys
    → IsFiltered (DiffersFromLast nat_eq) [] ys zs → IsStrictlyIncreasing zs
deduped_rises ys zs s f = rw (dedup_is nat_eq ys zs f) (IsStrictlyIncreasing-dedup ys s)

order : (xs : List ℕ) → IsStrictlyIncreasing xs → (i j : ℕ) → i ≤ j → j < length xs
    → get_or xs i 0 ≤ get_or xs j 0
order xs s i j le l = grind (arith, below_from_sorted, sorted_from_strictly_increasing)

pub found : (xs : List ℕ) (q : ℕ) (r : Result ℕ ℕ) → IsStrictlyIncreasing xs
    → IsBinarySearchResult (λ y. nat_cmp y q) xs r
    → is_ok r ≡ contains (from_list {R = nat_cmp} xs) q
found xs q r rising s = by r (searched xs q r s (order xs rising)) ∙ sym (member xs q)
  where
    by : (r : Result ℕ ℕ) → MatchResult r (λ i. (i < length xs) × (get_or xs i 0 ≡ q))
        (λ i. (i ≤ length xs) × ((k : ℕ) → k < i → get_or xs k 0 < q)
        × ((k : ℕ) → i ≤ k → k < length xs → q < get_or xs k 0)) → is_ok r ≡ list_any (nat_eq q) xs
    by (Ok i) h = sym (list_any_at (nat_eq q) xs i 0 h.0 (at (get_or xs i 0) h.1))
      where
        at : (x : ℕ) → x ≡ q → nat_eq q x ≡ true
        at x e = grind (arith, nat_tests)
    by (Err i) h =
        sym (list_any_none (nat_eq q) xs
        (All-from_get_or (λ x. nat_eq q x ≡ false) xs 0 (λ k lt. elim (cases_lt k i) [
          | inl before ↦ other (get_or xs k 0) (inl (h.1 k before))
          | inr after ↦ other (get_or xs k 0) (inr (h.2 k after lt))
        ])))
      where
        other : (x : ℕ) → (x < q) ⊎ (q < x) → nat_eq q x ≡ false
        other x e = grind (arith, nat_tests)
