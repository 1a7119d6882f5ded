-- Rows and sets of variables as lists in rising order
use Rattle.std.proofs.Common.{◌≡◌, ◌≢◌, ℕ, zero, suc, ◌+◌, ◌-◌, ◌<◌, ◌≤◌, inl, inr, Bool, true}
use Rattle.std.proofs.Common.{false, not, cond, ◌&&◌, nat_eq, List, [], ◌∷◌, length, map, filter}
use Rattle.std.proofs.Common.{All, unwrap_or, T, pos, arith, refl, sym, ap, ◌∙◌}
use Rattle.std.proofs.lemmas.Bool.Decides.{nat_tests, Decides-int_eq}
use Rattle.std.proofs.lemmas.List.Elements.{All-nil, All-cons, All-head, All-tail, All-filter}
use Rattle.std.proofs.lemmas.List.FromFn.{length-range_with_len, get_or-range_with_len}
use Rattle.std.proofs.lemmas.Map.Views.{any-filter_same}
use Rattle.std.proofs.{lemmas.Bool.cases_lt, lemmas.Int.ints, lemmas.List.length-map}
use Rattle.std.specs.List.{IsDistinct, AllByRecursion, list_any, range_with_len}
use Rattle.std.specs.Ordering.{nat_cmp, int_eq, eq_by_cmp}
use Rattle.std.specs.FinMap.{entries, entries_sorted, find, is_sorted, get-entries}
use Rattle.std.specs.FinMap.{get-from_entries, same_map, nat_cmp-IsAntisymmetric}
use Rattle.std.specs.FinSet.{contains, from_list, contains-from_list, same_set}
use Rattle.std.specs.{Cmp.nat_cmp_total, FinMap.Entries.below_all}
use Rattle.vipr_spec.specs.Constraint.{Row, at, IsInteger, NamesBelow}
use Rattle.vipr_spec.specs.Certificate.{Problem, variables, integer_variables}
use Rattle.vipr_spec.specs.{Fraction.ℚ, Fraction.zero_ℚ, Reading.is_nonzero, Reading.row_of}
use Rattle.vipr_spec.proofs.Laws.{is_same, is_self, is_zero}

-- ---- numbers that rise

abbrev keys_of : {X : Type 0} → List (ℕ × X) → List ℕ
keys_of es = map (λ e. e.0) es

-- they rise from low on, and stay below n
abbrev Rises : ℕ → ℕ → List ℕ → Type 0
Rises low n [] = Unit {0}
Rises low n (k ∷ ks) = (low ≤ k) × (k < n) × Rises (k + 1) n ks

both : (a b : Bool) → T (a && b) → T a × T b
both a b h = grind arith

module _ {X : Type 0} where
  above : (k : ℕ) (es : List (ℕ × X)) → T (below_all nat_cmp k es) → AllByRecursion (λ j. k + 1 ≤ j) (keys_of es)
  above k [] b = tt
  above k (e ∷ es) b =
      let first : k + 1 ≤ e.0 = grind (arith, nat_tests) in
      (first, above k es (grind (arith, nat_tests)))

  sorted_rises : (low n : ℕ) (es : List (ℕ × X)) → T (is_sorted nat_cmp es)
      → AllByRecursion (λ k. low ≤ k) (keys_of es) → AllByRecursion (λ k. k < n) (keys_of es)
      → Rises low n (keys_of es)
  sorted_rises low n [] s l h = tt
  sorted_rises low n (e ∷ es) s l h =
      let parts = both (below_all nat_cmp e.0 es) (is_sorted nat_cmp es) s in
      (l.0, h.0, sorted_rises (e.0 + 1) n es parts.1 (above e.0 es parts.0) h.1)

rises_length : (low n : ℕ) (ks : List ℕ) → Rises low n ks → length ks ≤ n - low
rises_length low n [] r = omega arith
rises_length low n (k ∷ ks) r = let rest = rises_length (k + 1) n ks r.2 in omega arith

rises_apart : (low n j : ℕ) (ks : List ℕ) → j < low → Rises low n ks
    → AllByRecursion (λ k. nat_eq j k ≡ false) ks
rises_apart low n j [] h r = tt
rises_apart low n j (k ∷ ks) h r = (grind (arith, nat_tests), rises_apart (k + 1) n j ks (omega arith) r.2)

rises_distinct : (low n : ℕ) (ks : List ℕ) → Rises low n ks → IsDistinct nat_eq ks
unfolding IsDistinct
rises_distinct low n [] r = tt
rises_distinct low n (k ∷ ks) r = (rises_apart (k + 1) n k ks (omega arith) r.2, rises_distinct (k + 1) n ks r.2)

-- ---- rows

all_from_nothing : (ks : List ℕ) → AllByRecursion (λ k. 0 ≤ k) ks
all_from_nothing [] = tt
all_from_nothing (k ∷ ks) = (omega arith, all_from_nothing ks)

not_tied : (n j k : ℕ) → n ≤ j → k < n → eq_by_cmp nat_cmp j k ≡ false
not_tied n j k h l = grind (arith, nat_tests)

tied : (k : ℕ) → eq_by_cmp nat_cmp k k ≡ true
tied k = grind (arith, nat_tests)

-- where no coefficient is 0, a list that names no variable from n on has none
keys_below : (n : ℕ) (es : List (ℕ × ℚ)) → All (λ e. e.1 ≢ zero_ℚ) es
    → NamesBelow n (λ j. unwrap_or (find nat_cmp j es) zero_ℚ)
    → AllByRecursion (λ k. k < n) (keys_of es)
keys_below n [] a h = tt
keys_below n (e ∷ es) a h = (
  first,
  keys_below n es (All-tail (λ e. e.1 ≢ zero_ℚ) e es a)
      (λ j l. rw (not_tied n j e.0 l first) at (h j l)),
)
  where
    first : e.0 < n
    first = elim (cases_lt e.0 n) [
      | inl l ↦ l
      | inr l ↦
          absurd (All-head (λ e. e.1 ≢ zero_ℚ) e es a (rw (tied e.0) at (h e.0 l)))
    ]

all_below : (n : ℕ) (es : List (ℕ × ℚ)) → AllByRecursion (λ k. k < n) (keys_of es)
    → All (λ e. e.0 < n) es
all_below n [] h = All-nil (λ (e : ℕ × ℚ). e.0 < n)
all_below n (e ∷ es) h = All-cons (λ (e : ℕ × ℚ). e.0 < n) e es h.0 (all_below n es h.1)

nonzero : (x : ℚ) → x ≢ zero_ℚ → not (int_eq x.numer (pos 0)) ≡ true
nonzero x n = by (int_eq x.numer (pos 0)) refl
  where
    is_none : x.numer ≡ pos 0 → x ≡ zero_ℚ
    is_none e = is_same _ _ _ _ _ _ (is_self x) (is_zero 1 (omega arith)) (omega (arith, ints))

    by : (b : Bool) → int_eq x.numer (pos 0) ≡ b → not (int_eq x.numer (pos 0)) ≡ true
    by true e = absurd (n (is_none ((Decides-int_eq x.numer (pos 0)).0 e)))
    by false e = ap not e

all_kept : (es : List (ℕ × ℚ)) → All (λ e. e.1 ≢ zero_ℚ) es → filter is_nonzero es ≡ es
all_kept [] a = refl
all_kept (e ∷ es) a =
    let first = nonzero e.1 (All-head (λ (e : ℕ × ℚ). e.1 ≢ zero_ℚ) e es a) in
    let rest = all_kept es (All-tail (λ (e : ℕ × ℚ). e.1 ≢ zero_ℚ) e es a) in
    ap (λ b. cond b (e ∷ filter is_nonzero es) (filter is_nonzero es)) first ∙ ap (λ fs. e ∷ fs) rest

-- the entries of a row over n variables
pub record AreEntries (n : ℕ) (row : Row) : Type 0 where
  pub below : All (λ e. e.0 < n) (entries row)
  pub distinct : IsDistinct nat_eq (map (λ p. p.0) (entries row))
  pub few : length (entries row) ≤ n
  pub again : row ≡ row_of (entries row)

pub row_entries : (n : ℕ) (row : Row) → NamesBelow n (at row)
    → All (λ e. e.1 ≢ zero_ℚ) (entries row) → AreEntries n row
row_entries n row names a =
    let below = keys_below n (entries row) a
    (λ j l. ap (λ o. unwrap_or o zero_ℚ) (sym (get-entries row j)) ∙ names j l) in
    let rises = sorted_rises 0 n (entries row) (entries_sorted row) (all_from_nothing (keys_of (entries row))) below in
    let count = rises_length 0 n (keys_of (entries row)) rises in
    let few : length (entries row) ≤ n = omega (arith, length-map (entries row) (λ (e : ℕ × ℚ). e.0)) in
    record {
      below = all_below n (entries row) below;
      distinct = rises_distinct 0 n (keys_of (entries row)) rises;
      few = few;
      again = same_map nat_cmp_total nat_cmp-IsAntisymmetric row (row_of (entries row))
          (λ q. get-entries row q ∙ ap (find nat_cmp q) (sym (all_kept (entries row) a))
          ∙ sym (get-from_entries nat_cmp_total (filter is_nonzero (entries row)) q));
    }

-- ---- sets of variables

-- the integer variables of a problem, in rising order
pub record AreMembers (p : Problem) : Type 0 where
  pub below : All (λ j. j < variables p) (integer_variables p)
  pub few : length (integer_variables p) ≤ variables p
  pub again : p.integers ≡ from_list (integer_variables p)

filter_length : (p : ℕ → Bool) (xs : List ℕ) → length (filter p xs) ≤ length xs
filter_length p [] = omega arith
filter_length p (x ∷ xs) = by (p x) (filter_length p xs)
  where
    by : (b : Bool) → length (filter p xs) ≤ length xs
        → length (cond b (x ∷ filter p xs) (filter p xs)) ≤ suc (length xs)
    by true h = omega arith
    by false h = omega arith

any_range : (q a n : ℕ) → a ≤ q → q < a + n
    → list_any (eq_by_cmp nat_cmp q) (range_with_len a n) ≡ true
any_range q a zero l h = absurd (omega arith)
any_range q a (suc n) l h = elim (cases_lt a q) [
  | inl less ↦
      let apart : eq_by_cmp nat_cmp q a ≡ false = grind (arith, nat_tests) in
      rw apart (any_range q (a + 1) n (omega arith) (omega arith))
  | inr same ↦ let tied : eq_by_cmp nat_cmp q a ≡ true = grind (arith, nat_tests) in rw tied refl
]

tied_same : (q k : ℕ) → eq_by_cmp nat_cmp q k ≡ true → k ≡ q
tied_same q k h = grind (arith, nat_tests)

pub set_members : (p : Problem) → ((j : ℕ) → IsInteger p.integers j → j < variables p)
    → AreMembers p
set_members p h =
    let n = variables p in
    let ints = p.integers in
    let in_range : All (λ j. j < n) (range_with_len 0 n) = λ k d l. let size = length-range_with_len 0 n in
    let less : k < n = omega arith in
    rw (get_or-range_with_len 0 n k d less) (omega arith) in
    let few : length (integer_variables p) ≤ n =
    omega (arith, filter_length (contains ints) (range_with_len 0 n), length-range_with_len 0 n)
    in
    record {
      below = All-filter (contains ints) (λ j. j < n) (range_with_len 0 n) in_range;
      few = few;
      again = same_set nat_cmp_total nat_cmp-IsAntisymmetric ints (from_list (integer_variables p))
          (λ q. same q (contains ints q) refl
          ∙ sym (contains-from_list nat_cmp_total (integer_variables p) q));
    }
  where
    found : (q : ℕ)
        → list_any (eq_by_cmp nat_cmp q)
        (integer_variables p) ≡ (contains p.integers q && list_any (eq_by_cmp nat_cmp q)
        (range_with_len 0 (variables p)))
    found q = any-filter_same (eq_by_cmp nat_cmp q) (contains p.integers) (contains p.integers q)
        (λ k e. ap (contains p.integers) (tied_same q k e)) (range_with_len 0 (variables p))

    same : (q : ℕ) (b : Bool) → contains p.integers q ≡ b
        → contains p.integers q ≡ list_any (eq_by_cmp nat_cmp q) (integer_variables p)
    same q true e =
        let less : q < variables p = h q e in
        let there = any_range q 0 (variables p) (omega arith) (omega arith) in
        e ∙ sym (found q ∙ ap (λ b. b && list_any (eq_by_cmp nat_cmp q) (range_with_len 0 (variables p))) e ∙ there)
    same q false e = e
        ∙ sym (found q
        ∙ ap (λ b. b && list_any (eq_by_cmp nat_cmp q) (range_with_len 0 (variables p))) e)
