-- All tests of a listed solution pass exactly where it is feasible and fits
use Rattle.std.proofs.Common.{◌≡◌, ℕ, ◌<◌, Bool, true, false, cond, List, [], ◌∷◌, map, filter}
use Rattle.std.proofs.Common.{length, slice_index_or, All, None, ◌++◌, arith, refl, sym, ◌∙◌, subst}
use Rattle.std.proofs.lemmas.List.FromFn.{length-range_with_len, get_or-range_with_len}
use Rattle.std.proofs.lemmas.List.Elements.{All-nil, All-cons, All-head, All-tail, All-append}
use Rattle.std.proofs.lemmas.List.Elements.{All-map, All-get_or, All-weaker, filter_passes}
use Rattle.std.proofs.{Math.ListN.length-map, lemmas.List.get_or-map}
use Rattle.std.specs.Prelude.{◌↔◌, flat_map}
use Rattle.std.specs.{FinMap.empty, FinSet.contains, List.range_with_len}
use Rattle.vipr_spec.specs.{zero_ℚ, IsWhole, IsInteger, Row, at, equal, condition, IsTrueAt}
use Rattle.vipr_spec.specs.{ValueFits, Named, Problem, variables, integer_variables, IsFeasible}
use Rattle.vipr_spec.specs.{SolutionFits, whole_at, value_fits, holds, objective_fits, given_at}
use Rattle.vipr_spec.specs.{PassesSolution, solution_tests, FirstFailing, Constraint.Constraint}
use Rattle.vipr_spec.proofs.FirstFailing.{none_all, all_none, all_parts}
use Rattle.vipr_spec.proofs.EachTests.{flat_all_of, flat_all}

-- ---- the integer variables

abbrev IfPasses : (ℕ → Type 0) → (ℕ → Bool) → ℕ → Type 0
IfPasses P p x = p x ≡ true → P x

kept_all : (P : ℕ → Type 0) (p : ℕ → Bool) (xs : List ℕ) → All P (filter p xs)
    → All (IfPasses P p) xs
kept_all P p [] a = All-nil (IfPasses P p)
kept_all P p (x ∷ xs) a = by (p x) refl (kept_all P p xs) a
  where
    by : (b : Bool) → p x ≡ b → (All P (filter p xs) → All (IfPasses P p) xs)
        → All P (cond b (x ∷ filter p xs) (filter p xs)) → All (IfPasses P p) (x ∷ xs)
    by true e rest a = All-cons (IfPasses P p) x xs (λ t. All-head P x (filter p xs) a)
        (rest (All-tail P x (filter p xs) a))
    by false e rest a = All-cons (IfPasses P p) x xs (λ t. absurd (cc)) (rest a)

each_integer : (P : ℕ → Type 0) (p : Problem) → ((j : ℕ) → IsInteger p.integers j → j < variables p)
    → All P (integer_variables p) → (j : ℕ) → IsInteger p.integers j → P j
each_integer P p below a j i =
    let less : j < variables p = below j i in
    let within : j < length (range_with_len 0 (variables p)) =
    subst (λ n. j < n) (sym (length-range_with_len 0 (variables p))) less in
    let is : slice_index_or (range_with_len 0 (variables p)) j j ≡ j =
    get_or-range_with_len 0 (variables p) j j less ∙ omega arith in
    subst (λ n. IsInteger p.integers n → P n) is
    (kept_all P (contains p.integers) (range_with_len 0 (variables p)) a j j within) i

all_integers : (P : ℕ → Type 0) (p : Problem) → ((j : ℕ) → IsInteger p.integers j → P j)
    → All P (integer_variables p)
all_integers P p f = All-weaker (IsInteger p.integers) P f (integer_variables p)
    (filter_passes (contains p.integers) (range_with_len 0 (variables p)))

-- ---- the constraints of the problem by index
pub each_given : (P : Constraint → Type 0) (p : Problem)
    → All (λ i. P (given_at p i)) (range_with_len 0 (length p.constraints))
    ↔ All (λ c. P c.item) p.constraints
each_given P p = (
  λ a k d h. subst P (item k d h) (subst (λ i. P (given_at p i)) (index k 0 h) (a k 0 (in_range k h))),
  λ a k d h. let l : k < length p.constraints = subst (λ n. k < n) (length-range_with_len 0 (length p.constraints)) h in
      subst (λ i. P (given_at p i)) (sym (index k d l))
      (All-get_or P (map (λ n. n.item) p.constraints) k default (simp length-map l)
      (All-map P (λ (n : Named Constraint). n.item) p.constraints a)),
)
  where
    default : Constraint
    default = record { row = empty; sense = equal; bound = zero_ℚ }

    in_range : (k : ℕ) → k < length p.constraints → k < length (range_with_len 0 (length p.constraints))
    in_range k h = subst (λ n. k < n) (sym (length-range_with_len 0 (length p.constraints))) h

    index : (k d : ℕ) → k < length p.constraints → slice_index_or (range_with_len 0 (length p.constraints)) k d ≡ k
    index k d h = get_or-range_with_len 0 (length p.constraints) k d h ∙ omega arith

    item : (k : ℕ) (d : Named Constraint) → k < length p.constraints
        → given_at p k ≡ (slice_index_or p.constraints k d).item
    item k d h = get_or-map (λ (n : Named Constraint). n.item) p.constraints k d _ h

-- ---- all tests
abbrev MeetsOne : Problem → Row → Constraint → Type 0
MeetsOne p s c = ValueFits (variables p) (at c.row) (at s) × IsTrueAt (variables p) (condition c) (at s)

pub feasible_of_tests : (p : Problem) (s : Row)
    → ((j : ℕ) → IsInteger p.integers j → j < variables p)
    → All (PassesSolution p s) (solution_tests p) → IsFeasible p (at s) × SolutionFits p (at s)
feasible_of_tests p s below a =
    let P = PassesSolution p s in
    let pairs = λ (i : ℕ). value_fits i ∷ holds i ∷ [] in
    let two = all_parts P
    (map whole_at (integer_variables p)
    ++ flat_map pairs (range_with_len 0 (length p.constraints))) (objective_fits ∷ []) a in
    let one = all_parts P (map whole_at (integer_variables p))
    (flat_map pairs (range_with_len 0 (length p.constraints))) two.0 in
    let each : All (λ c. MeetsOne p s c.item) p.constraints =
    (each_given (MeetsOne p s) p).0
    (flat_all_of P pairs (λ i. MeetsOne p s (given_at p i))
    (λ i b. (
      All-head P (value_fits i) (holds i ∷ []) b,
      All-head P (holds i) [] (All-tail P (value_fits i) (holds i ∷ []) b),
    ))
    (range_with_len 0 (length p.constraints)) one.1) in (
      record {
        whole = each_integer (λ j. IsWhole (at s j)) p below
            (unmapped (integer_variables p) one.0);
        meets = λ k d h. (each k d h).1;
      },
      (λ k d h. (each k d h).0, All-head P objective_fits [] two.1),
    )
  where
    unmapped : (js : List ℕ) → All (PassesSolution p s) (map whole_at js) → All (λ j. IsWhole (at s j)) js
    unmapped [] b = All-nil (λ j. IsWhole (at s j))
    unmapped (j ∷ js) b = All-cons (λ j. IsWhole (at s j)) j js
        (All-head (PassesSolution p s) (whole_at j) (map whole_at js) b)
        (unmapped js (All-tail (PassesSolution p s) (whole_at j) (map whole_at js) b))

pub tests_of_feasible : (p : Problem) (s : Row) → IsFeasible p (at s) → SolutionFits p (at s)
    → All (PassesSolution p s) (solution_tests p)
tests_of_feasible p s f g =
    let P = PassesSolution p s in
    let pairs = λ (i : ℕ). value_fits i ∷ holds i ∷ [] in
    let each : All (λ c. MeetsOne p s c.item) p.constraints = λ k d h. (g.0 k d h, f.meets k d h) in
    All-append P
    (map whole_at (integer_variables p)
    ++ flat_map pairs (range_with_len 0 (length p.constraints))) (objective_fits ∷ [])
    (All-append P (map whole_at (integer_variables p)) (flat_map pairs (range_with_len 0 (length p.constraints)))
    (All-map P whole_at (integer_variables p) (all_integers (λ j. IsWhole (at s j)) p f.whole))
    (flat_all P pairs (λ i. MeetsOne p s (given_at p i))
    (λ i m. All-cons P (value_fits i) (holds i ∷ []) m.0
    (All-cons P (holds i) [] m.1 (All-nil P))) (range_with_len 0 (length p.constraints))
    ((each_given (MeetsOne p s) p).1 each)))
    (All-cons P objective_fits [] g.1 (All-nil P))

pub no_solution_test_fails : (p : Problem) (s : Row)
    → ((j : ℕ) → IsInteger p.integers j → j < variables p)
    → FirstFailing (PassesSolution p s) (solution_tests p) None
    ↔ (IsFeasible p (at s) × SolutionFits p (at s))
no_solution_test_fails p s below = (
  λ f. feasible_of_tests p s below (none_all (PassesSolution p s) (solution_tests p) f),
  λ g. all_none (PassesSolution p s) (solution_tests p) (tests_of_feasible p s g.0 g.1),
)
