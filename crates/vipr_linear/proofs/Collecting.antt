-- The row that the touched variables' sums make
use Rattle.std.proofs.Common.{◌≡◌, ℕ, ◌<◌, Bool, nat_eq, List, [], ◌∷◌, map, filter, length, get_or}
use Rattle.std.proofs.Common.{All, Contains, Result, Ok, Err, OnOk, OnErr, IfOk, Option, Some, None}
use Rattle.std.proofs.Common.{unwrap_or, arith, refl, sym, ◌∙◌, ap, subst, ◌⊎◌, inl, inr}
use Rattle.std.proofs.lemmas.List.Sorted.{IsNonDecreasingBy-from_sort, list_any-IsPermutation}
use Rattle.std.proofs.lemmas.Map.Keys.{IsDistinct-IsPermutation, IsStrictlyIncreasing-from_distinct}
use Rattle.std.proofs.lemmas.Map.Views.{Contains-from_any, Contains-from_lookup}
use Rattle.std.proofs.lemmas.Map.Views.{lookup-from_Contains}
use Rattle.std.proofs.lemmas.List.{get_or-map, get_or_default, length-map}
use Rattle.std.proofs.{lemmas.Bool.Decides.nat_tests, lemmas.Map.Made.IsDistinct-keys_filter}
use Rattle.std.specs.FinMap.{find, from_sorted, get-from_sorted}
use Rattle.std.specs.List.Sorted.{IsPermutation, IsSorted, IsStrictlyIncreasing}
use Rattle.std.specs.{Cmp.nat_eq_equiv, List.IsDistinct, Map.lookup, Ordering.nat_cmp}
use Rattle.vipr_spec.specs.{Constraint.at, Fraction.ℚ, Fraction.zero_ℚ, Reading.is_nonzero}
use Rattle.vipr_spec.proofs.Laws.{zero_or_not}
use Rattle.vipr_linear.specs.Row.{RisesFrom, variables_of}
use Rattle.vipr_linear.specs.Touched.{Touching, Covers, AreTouched}
use Rattle.vipr_linear.proofs.Marks.{pick, touched_below}
use Rattle.vipr_linear.proofs.Rows.{row_kept, rises_sorted, find_lookup, contains_unfiltered}
use Rattle.vipr_linear.proofs.Rows.{contains_filter, exact, nonzero_test}

pub touching_sorted : (marks : List Bool) (xs ys : List ℕ) → IsPermutation xs ys → Touching marks xs
    → Touching marks ys
touching_sorted marks xs ys p t = record {
  listed = λ j. t.listed j ∙ list_any-IsPermutation (nat_eq j) xs ys p;
  distinct = IsDistinct-IsPermutation nat_eq (λ x y. grind (arith, nat_tests)) xs ys p t.distinct;
}

pub rising_of_touched : (marks : List Bool) (xs : List ℕ) → IsSorted nat_cmp xs → Touching marks xs
    → IsStrictlyIncreasing xs
rising_of_touched marks xs s t = IsStrictlyIncreasing-from_distinct xs
    (IsNonDecreasingBy-from_sort (λ x. x) xs s) t.distinct

variables_picked : (sums : List ℚ) (xs : List ℕ) → variables_of (map (pick sums) xs) ≡ xs
variables_picked sums [] = refl
variables_picked sums (x ∷ xs) = ap (λ ys. x ∷ ys) (variables_picked sums xs)

pub collected_rises : (sums : List ℚ) (xs : List ℕ) → IsStrictlyIncreasing xs
    → RisesFrom 0 (filter is_nonzero (map (pick sums) xs))
collected_rises sums xs s =
    row_kept (map (pick sums) xs) (subst IsStrictlyIncreasing (sym (variables_picked sums xs)) s)

pub picked_distinct : (sums : List ℚ) (xs : List ℕ) → IsDistinct nat_eq xs
    → IsDistinct nat_eq (variables_of (filter is_nonzero (map (pick sums) xs)))
picked_distinct sums xs d = IsDistinct-keys_filter nat_eq is_nonzero _
    (subst (IsDistinct nat_eq) (sym (variables_picked sums xs)) d)

-- what a look-up among the kept sums finds
module _ (sums : List ℚ) (marks : List Bool) (xs : List ℕ) (t : Touching marks xs) (c : Covers sums marks) (j : ℕ) where
  kept : List (ℕ × ℚ)
  kept = filter is_nonzero (map (pick sums) xs)

  picked : (ys : List ℕ) → Contains ys j → Contains (map (pick sums) ys) (pick sums j)
  picked ys h = (h.0, rw length-map h.1, get_or-map (pick sums) ys h.0 j (pick sums j) h.1 ∙ ap (pick sums) h.2)

  only_picked : (ys : List ℕ) (v : ℚ) → Contains (map (pick sums) ys) (j, v) → v ≡ get_or sums j zero_ℚ
  only_picked ys v h =
      let l : h.0 < length ys = (let e = length-map ys (pick sums) in let k = h.1 in omega (arith, e, k)) in
      let e : pick sums (get_or ys h.0 0) ≡ (j, v) = sym (get_or-map (pick sums) ys h.0 0 (j, v) l) ∙ h.2 in
      sym (ap (λ (p : ℕ × ℚ). p.1) e) ∙ ap (λ k. get_or sums k zero_ℚ) (ap (λ (p : ℕ × ℚ). p.0) e)

  distinct : IsDistinct nat_eq (variables_of (map (pick sums) xs))
  distinct = subst (IsDistinct nat_eq) (sym (variables_picked sums xs)) t.distinct

  pub found : unwrap_or (find nat_cmp j (filter is_nonzero (map (pick sums) xs))) zero_ℚ ≡ get_or sums j zero_ℚ
  found = ap (λ o. unwrap_or o zero_ℚ) (find_lookup j _)
      ∙ by (zero_or_not (get_or sums j zero_ℚ))
      (lookup (nat_eq j) (filter is_nonzero (map (pick sums) xs))) refl
    where
      by : (get_or sums j zero_ℚ ≡ zero_ℚ) ⊎ ¬ (get_or sums j zero_ℚ ≡ zero_ℚ) → (o : Option ℚ)
          → lookup (nat_eq j) (filter is_nonzero (map (pick sums) xs)) ≡ o
          → unwrap_or o zero_ℚ ≡ get_or sums j zero_ℚ
      by (inl z) None e = sym z
      by z (Some v) e =
          only_picked xs v
          (contains_unfiltered is_nonzero (map (pick sums) xs) (j, v)
          (Contains-from_lookup exact j v _ e)).0
      by (inr n) None e =
          let there = Contains-from_any exact j xs (sym (t.listed j) ∙ c j n) in
          let is = lookup-from_Contains nat_eq_equiv j (get_or sums j zero_ℚ) _
          (IsDistinct-keys_filter nat_eq is_nonzero _ distinct)
          (contains_filter is_nonzero (map (pick sums) xs) (pick sums j)
          (nonzero_test (get_or sums j zero_ℚ) n) (picked xs there)) in
          absurd (let clash = sym e ∙ is in cc)

pub collected_at : (sums : List ℚ) (marks : List Bool) (xs : List ℕ) → Touching marks xs
    → Covers sums marks → IsStrictlyIncreasing xs → (j : ℕ)
    → at (from_sorted (filter is_nonzero (map (pick sums) xs))) j ≡ get_or sums j zero_ℚ
collected_at sums marks xs t c s j =
    ap (λ o. unwrap_or o zero_ℚ)
    (get-from_sorted nat_cmp _ j (rises_sorted 0 _ (collected_rises sums xs s)))
    ∙ found sums marks xs t c j

pub touched_within : (sums : List ℚ) (marks : List Bool) (xs : List ℕ) → length marks ≡ length sums
    → Touching marks xs → All (λ j. j < length sums) xs
touched_within sums marks xs e t k d l =
    let h = touched_below marks xs xs k t refl l in
    rw (get_or_default xs k d 0 l, ← e) h

pub touched_sorted : (marks : List Bool) (xs ys : List ℕ) (m n : ℕ) → IsPermutation xs ys → n ≡ m
    → AreTouched marks xs m → AreTouched marks ys n
touched_sorted marks xs ys m n p e k = record {
  room = (let r = k.room in omega (arith, e, r));
  touching = touching_sorted marks xs ys p k.touching;
}

pub on_ok : {A E : Type 0} (r : Result A E) (P : Type 0) → P → OnOk r P
on_ok r P p = grind arith

pub on_ok_then : {A E : Type 0} (r : Result A E) (P Q : Type 0) → (P → Q) → OnOk r P → OnOk r Q
on_ok_then r P Q f p = grind arith

pub on_err_then : {A E : Type 0} (r : Result A E) (P Q : Type 0) → (P → Q) → OnErr r P → OnErr r Q
on_err_then r P Q f p = grind arith

pub both_ok : {A E : Type 0} (r : Result A E) (P Q R : A → Type 0) → ((v : A) → P v → Q v → R v)
    → IfOk r P → IfOk r Q → IfOk r R
both_ok (Ok v) P Q R f p q = f v p q
both_ok (Err e) P Q R f p q = tt
