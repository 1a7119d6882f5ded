-- A rising list, as a set.
use Rattle.std.proofs.Common.{rules, ◌≡◌, ℕ, ◌+◌, ◌<◌, ◌≤◌, Bool, true, false, not, ◌||◌, ◌&&◌}
use Rattle.std.proofs.Common.{nat_eq, List, [], ◌∷◌, length, get_or, filter, Result, Ok, Err, is_ok}
use Rattle.std.proofs.Common.{MatchResult, ◌^◌, refl, sym, ap, ◌∙◌, arith, suc, ◌⊎◌, inl, inr, ◌++◌}
use Rattle.std.proofs.lemmas.Bool.Decides.{nat_tests, same_from_decides, Decides-eqb}
use Rattle.std.proofs.lemmas.List.Folds.{list_any_at, list_any_none, list_any-append}
use Rattle.std.proofs.lemmas.List.Kept.{Contains-dedup_nat, Contains-from_dedup}
use Rattle.std.proofs.lemmas.List.Sorted.{searched, Contains-permutation, IsPermutation-sym}
use Rattle.std.proofs.lemmas.Map.Keys.{below_from_sorted, sorted_from_strictly_increasing}
use Rattle.std.proofs.lemmas.Map.Keys.{IsStrictlyIncreasing-dedup}
use Rattle.std.proofs.{lemmas.Bool.cases_lt, lemmas.List.Elements.All-from_get_or}
use Rattle.std.proofs.{lemmas.List.Filters.dedup_is, lemmas.Map.Made.is_member-Decides}
use Rattle.std.specs.List.Retain.{IsFiltered, DiffersFromLast}
use Rattle.std.specs.List.Sorted.{IsBinarySearchResult, IsPermutation, IsSorted}
use Rattle.std.specs.List.Sorted.{IsStrictlyIncreasing}
use Rattle.std.specs.Ordering.{nat_cmp, eq_by_cmp}
use Rattle.std.specs.FinSet.{FinSet, contains, empty, from_list, union, remove, same_set}
use Rattle.std.specs.FinSet.{nat_cmp-IsAntisymmetric, contains-from_list_nat, contains-union}
use Rattle.std.specs.FinSet.{contains-remove, contains-empty, contains-insert}
use Rattle.std.specs.{Cmp.nat_cmp_total, Cmp.unsigned_tied, List.list_any, List.dedup, List.All}
use Rattle.vipr_table.specs.Rising.{IsRising, RisesWithin, IsUnion, has}
use Rattle.vipr_table.proofs.RisingLemmas.{has_all_but, rises_order}

pub same_numbers : (s t : FinSet nat_cmp) → ((q : ℕ) → contains s q ≡ contains t q) → s ≡ t
same_numbers s t same = same_set nat_cmp_total nat_cmp-IsAntisymmetric s t same

-- a list that has what either of two has
union_by : (xs ys zs : List ℕ) → ((q : ℕ) → has zs q ≡ (has xs q || has ys q))
    → from_list {R = nat_cmp} zs ≡ union (from_list xs) (from_list ys)
union_by xs ys zs members = grind (arith, same_numbers, contains-from_list_nat, contains-union)

pub union_seen : (xs ys zs : List ℕ) → IsUnion xs ys zs
    → from_list {R = nat_cmp} zs ≡ union (from_list xs) (from_list ys)
union_seen xs ys zs u = union_by xs ys zs u.members

pub tied_numbers : (a b : ℕ) → nat_eq a b ≡ eq_by_cmp nat_cmp a b
tied_numbers a b = grind (arith, nat_tests)

pub remove_seen : (xs : List ℕ) (k : ℕ)
    → from_list {R = nat_cmp} (filter (λ x. not (nat_eq x k)) xs) ≡ remove (from_list xs) k
remove_seen xs k = search (rules, same_numbers, contains-from_list_nat, has_all_but, contains-remove)

pub found : (xs : List ℕ) (q : ℕ) (r : Result ℕ ℕ) → IsRising xs
    → IsBinarySearchResult (λ y. nat_cmp y q) xs r
    → is_ok r ≡ contains (from_list {R = nat_cmp} xs) q
found xs q r rising s = by r (searched xs q r s (rises_order 0 (2 ^ 32) xs rising)) ∙ sym (contains-from_list_nat xs q)
  where
    by : (r : Result ℕ ℕ) → MatchResult r (λ i. (i < length xs) × (get_or xs i 0 ≡ q))
        (λ i. (i ≤ length xs) × ((k : ℕ) → k < i → get_or xs k 0 < q)
        × ((k : ℕ) → i ≤ k → k < length xs → q < get_or xs k 0)) → is_ok r ≡ has xs q
    by (Ok i) h = sym (list_any_at (λ x. nat_eq x q) xs i 0 h.0 (at (get_or xs i 0) h.1))
      where
        at : (x : ℕ) → x ≡ q → nat_eq x q ≡ true
        at x e = grind (arith, nat_tests)
    by (Err i) h =
        sym (list_any_none (λ x. nat_eq x q) xs
        (All-from_get_or (λ x. nat_eq x q ≡ false) xs 0 (λ k lt. elim (cases_lt k i) [
          | inl before ↦ other (get_or xs k 0) (inl (h.1 k before))
          | inr after ↦ other (get_or xs k 0) (inr (h.2 k after lt))
        ])))
      where
        other : (x : ℕ) → (x < q) ⊎ (q < x) → nat_eq x q ≡ false
        other x e = grind (arith, nat_tests)

-- a set is empty where its list is
pub empty_seen : (xs : List ℕ) (b : Bool) → b ≡ nat_eq (length xs) 0
    → (b ≡ true → from_list {R = nat_cmp} xs ≡ empty)
    × (from_list {R = nat_cmp} xs ≡ empty → b ≡ true)
empty_seen [] b e = (λ h. refl, λ h. e)
empty_seen (x ∷ xs) b e = (
  λ h. absurd (let none : nat_eq (length (x ∷ xs)) 0 ≡ false = longer (length xs) in cc (none, e, h)),
  λ h. absurd (
      let here : has (x ∷ xs) x ≡ true = ap (λ c. c || has xs x) (itself x) in
      let a = contains-from_list_nat (x ∷ xs) x in
      let b = ap (λ s. contains s x) h in
      let c = contains-empty nat_cmp x in
      cc (here, a, b, c)),
)
  where
    itself : (x : ℕ) → nat_eq x x ≡ true
    itself x = grind (arith, nat_tests)

    longer : (n : ℕ) → nat_eq (suc n) 0 ≡ false
    longer n = grind (arith, nat_tests)

pub or_false : (b : Bool) → (b || false) ≡ b
or_false b = grind arith

and_false : (b : Bool) → (b && false) ≡ false
and_false b = grind arith

pub union_none : (s : FinSet nat_cmp) → s ≡ union s empty
union_none s =
    sym (same_numbers _ _ (λ q. contains-union nat_cmp_total s empty q
    ∙ ap (λ b. contains s q || b) (contains-empty nat_cmp q) ∙ or_false (contains s q)))

or_same : (b : Bool) → (b || b) ≡ b
or_same b = grind arith

-- a set with itself
pub union_same : (s : FinSet nat_cmp) → s ≡ union s s
union_same s = sym (same_numbers _ _ (λ q. contains-union nat_cmp_total s s q ∙ or_same (contains s q)))

pub remove_none : (k : ℕ) → empty ≡ remove {R = nat_cmp} empty k
remove_none k =
    sym (same_numbers _ _ (λ q. contains-remove nat_cmp_total empty k q
    ∙ ap (λ b. not (eq_by_cmp nat_cmp q k) && b) (contains-empty nat_cmp q) ∙ and_false _
    ∙ sym (contains-empty nat_cmp q)))

-- nothing is taken out by what a set doesn't have
pub remove_absent : (s : FinSet nat_cmp) (k : ℕ) → contains s k ≡ false → s ≡ remove s k
remove_absent s k absent =
    sym (same_numbers _ _ (λ q. contains-remove nat_cmp_total s k q
    ∙ ap (λ b. not b && contains s q) (sym (tied_numbers q k)) ∙ by q (nat_eq q k) refl))
  where
    same : (q : ℕ) → nat_eq q k ≡ true → q ≡ k
    same q e = grind (arith, nat_tests)

    by : (q : ℕ) (b : Bool) → nat_eq q k ≡ b → (not b && contains s q) ≡ contains s q
    by q b e = grind arith

-- a list that goes on
pub longer_seen : (xs ys zs : List ℕ)
    → from_list {R = nat_cmp} (xs ++ (ys ++ zs)) ≡ union (from_list (xs ++ ys)) (from_list zs)
longer_seen xs ys zs = grind (arith, union_by, list_any-append)

whether : (ks : List ℕ) (q : ℕ) → contains (from_list {R = nat_cmp} ks) q ≡ list_any (nat_eq q) ks
whether [] q = contains-empty nat_cmp q
whether (k ∷ ks) q = contains-insert nat_cmp_total _ k q ∙ (λ i. unsigned_tied q k i || whether ks q i)

-- what a sort and the removal of repeats leave makes the same set
pub deduped_set : (xs ys zs : List ℕ) → IsPermutation xs ys
    → IsFiltered (DiffersFromLast nat_eq) [] ys zs → from_list {R = nat_cmp} zs ≡ from_list xs
deduped_set xs ys zs p f = same_numbers _ _ (λ q.
    whether zs q
    ∙ ap (list_any (nat_eq q)) (dedup_is nat_eq ys zs f)
    ∙ same_from_decides _ _ (is_member-Decides Decides-eqb (dedup nat_eq ys) q) (
      λ t. Contains-dedup_nat ys q
          (Contains-permutation xs ys q p ((is_member-Decides Decides-eqb xs q).0 t)),
      λ h. (is_member-Decides Decides-eqb xs q).1
          (Contains-permutation ys xs q (IsPermutation-sym xs ys p)
          (Contains-from_dedup nat_eq ys q h)),
    )
    ∙ sym (whether xs q))

rises_at : (low : ℕ) (xs : List ℕ)
    → ((i j : ℕ) → i < j → j < length xs → get_or xs i 0 < get_or xs j 0)
    → ((k : ℕ) → k < length xs → low ≤ get_or xs k 0)
    → ((k : ℕ) → k < length xs → get_or xs k 0 < 2 ^ 32) → RisesWithin low (2 ^ 32) xs
rises_at low [] s l b = tt
rises_at low (x ∷ xs) s l b = (
  l 0 (omega arith),
  b 0 (omega arith),
  rises_at (x + 1) xs (λ i j lt h. s (suc i) (suc j) (omega (arith, lt)) (omega (arith, h)))
      (λ k h. let r = s 0 (suc k) (omega arith) (omega (arith, h)) in omega (arith, r))
      (λ k h. b (suc k) (omega (arith, h))),
)

-- and it rises
pub deduped_rising : (ys zs : List ℕ) → IsSorted nat_cmp ys
    → IsFiltered (DiffersFromLast nat_eq) [] ys zs → All (λ x. x < 2 ^ 32) zs → IsRising zs
deduped_rising ys zs s f b =
    let rises : IsStrictlyIncreasing zs = rw (dedup_is nat_eq ys zs f) (IsStrictlyIncreasing-dedup ys s) in
    rises_at 0 zs
    (λ i j lt h. below_from_sorted zs i j 0 (sorted_from_strictly_increasing zs rises) lt h)
    (λ k h. omega arith) (λ k h. b k 0 h)
