-- A rising list of numbers is the members of its set, in order
use Rattle.std.proofs.Common.{◌≡◌, ℕ, zero, suc, ◌+◌, ◌<◌, ◌≤◌, Bool, true, false, ◌||◌, cond}
use Rattle.std.proofs.Common.{nat_eq, List, [], ◌∷◌, filter, All, refl, sym, ap, ◌∙◌, arith, inl}
use Rattle.std.proofs.Common.{inr}
use Rattle.std.proofs.lemmas.List.Elements.{All-head, All-tail}
use Rattle.std.proofs.lemmas.Map.Keys.{sorted_tail, sorted_from_strictly_increasing}
use Rattle.std.proofs.lemmas.Map.Keys.{IsStrictlyIncreasing-from_sorted}
use Rattle.std.proofs.{lemmas.Bool.cases_lt, lemmas.Bool.Decides.nat_tests}
use Rattle.std.specs.{FinSet.contains, FinSet.from_list, List.list_any, List.range_with_len}
use Rattle.std.specs.{List.Sorted.IsStrictlyIncreasing, Ordering.nat_cmp}
use Rattle.vipr_spec.specs.Constraint.{Ints, IsInteger}
use Rattle.vipr_linear.proofs.Laws.{member}
use Rattle.vipr_cert.proofs.Within.{members_below}

-- they rise from low on, and stay below high
abbrev Rises : ℕ → ℕ → List ℕ → Type 0
Rises low high [] = Unit {0}
Rises low high (k ∷ ks) = (low ≤ k) × (k < high) × Rises (k + 1) high ks

abbrev BeginsFrom : ℕ → List ℕ → Type 0
BeginsFrom low [] = Unit {0}
BeginsFrom low (k ∷ ks) = low ≤ k

rises : (low high : ℕ) (ks : List ℕ) → BeginsFrom low ks → IsStrictlyIncreasing ks
    → All (λ j. j < high) ks → Rises low high ks
rises low high [] first up below = tt
rises low high (k ∷ ks) first up below = (
  first,
  All-head (λ j. j < high) k ks below,
  rises (k + 1) high ks (second ks up)
      (IsStrictlyIncreasing-from_sorted ks
      (sorted_tail nat_cmp k ks (sorted_from_strictly_increasing (k ∷ ks) up)))
      (All-tail (λ j. j < high) k ks below),
)
  where
    second : (ks : List ℕ) → IsStrictlyIncreasing (k ∷ ks) → BeginsFrom (k + 1) ks
    second [] up = tt
    second (j ∷ js) up = omega (arith, up 0 (omega arith))

apart : (low high j : ℕ) (ks : List ℕ) → j < low → Rises low high ks
    → list_any (nat_eq j) ks ≡ false
apart low high j [] h r = refl
apart low high j (k ∷ ks) h r =
    let first : nat_eq j k ≡ false = grind (arith, nat_tests) in
    rw first (apart (k + 1) high j ks (omega arith) r.2)

-- tests that tell the same from low on keep the same
kept_alike : (p q : ℕ → Bool) (low n : ℕ) → ((j : ℕ) → low ≤ j → p j ≡ q j)
    → filter p (range_with_len low n) ≡ filter q (range_with_len low n)
kept_alike p q low zero h = refl
kept_alike p q low (suc n) h =
    let rest = kept_alike p q (low + 1) n (λ j l. h j (omega arith)) in
    let first = h low (omega arith) in
    λ i. cond (first i) (low ∷ rest i) (rest i)

rising_kept : (low n high : ℕ) (ks : List ℕ) → high ≡ low + n → Rises low high ks
    → filter (λ j. list_any (nat_eq j) ks) (range_with_len low n) ≡ ks
rising_kept low zero high [] e r = refl
rising_kept low zero high (k ∷ ks) e r = absurd (omega arith)
rising_kept low (suc n) high [] e r = rising_kept (low + 1) n high [] (omega arith) tt
rising_kept low (suc n) high (k ∷ ks) e r = elim (cases_lt low k) [
  | inl below ↦
      let later : Rises (low + 1) high (k ∷ ks) = (omega arith, r.1, r.2) in
      let none : list_any (nat_eq low) (k ∷ ks) ≡ false = apart (low + 1) high low (k ∷ ks) (omega arith) later in
      ap (λ b. cond b (low ∷ rest) rest) none ∙ rising_kept (low + 1) n high (k ∷ ks) (omega arith) later
  | inr not_below ↦
      let same : low ≡ k = omega arith in
      let first : nat_eq low k ≡ true = grind (arith, nat_tests) in
      let others : (j : ℕ) → low + 1 ≤ j → (nat_eq j k || list_any (nat_eq j) ks) ≡ list_any
      (nat_eq j) ks = λ j l. let other : nat_eq j k ≡ false = grind (arith, nat_tests) in
      rw other refl in
      let after : Rises (low + 1) high ks = rw same r.2 in
      ap (λ b. cond (b || list_any (nat_eq low) ks) (low ∷ rest) rest) first
      ∙ ap (λ js. low ∷ js) (kept_alike _ _ (low + 1) n others ∙ rising_kept (low + 1) n high ks (omega arith) after)
      ∙ ap (λ j. j ∷ ks) same
]
  where
    rest : List ℕ
    rest = filter (λ j. list_any (nat_eq j) (k ∷ ks)) (range_with_len (low + 1) n)

begins : (ks : List ℕ) → BeginsFrom 0 ks
begins ks = grind arith

pub members_are : (ks : List ℕ) (ints : Ints) (n : ℕ) → from_list ks ≡ ints
    → IsStrictlyIncreasing ks → ((j : ℕ) → IsInteger ints j → j < n)
    → filter (contains ints) (range_with_len 0 n) ≡ ks
members_are ks ints n e up below =
    ap (λ (s : Ints). filter (contains s) (range_with_len 0 n)) (sym e)
    ∙ kept_alike (contains (from_list {R = nat_cmp} ks)) (λ j. list_any (nat_eq j) ks) 0 n (λ j l. member ks j)
    ∙ rising_kept 0 n n ks (omega arith)
    (rises 0 n ks (begins ks) up
    ((members_below ks n).1 (λ j h. below j (ap (λ (s : Ints). contains s j) (sym e) ∙ h))))
