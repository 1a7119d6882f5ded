-- The tests of a listed solution, one item after another.
use Rattle.std.proofs.Common.{◌≡◌, ℕ, zero, suc, ◌+◌, ◌<◌, ◌≤◌, Bool, true, false, cond, filter}
use Rattle.std.proofs.Common.{List, [], ◌∷◌, ◌++◌, length, take, drop, map, get_or, Option, Some}
use Rattle.std.proofs.Common.{None, refl, sym, ap, ◌∙◌, subst, inl, inr, arith, rules}
use Rattle.std.proofs.lemmas.List.{append-nil, take-append-drop, take_all, take_more, get_or-map}
use Rattle.std.proofs.lemmas.List.Concat.{flat_map-append}
use Rattle.std.proofs.lemmas.List.FromFn.{length-range_with_len, get_or-range_with_len}
use Rattle.std.proofs.{Math.ListN.length-map, lemmas.Bool.cases_eq, lemmas.Grind.common_steps}
use Rattle.std.specs.{FinSet.contains, List.flat_map, List.range_with_len}
use Rattle.vipr_spec.specs.Constraint.{Row, at, IsInteger, NamesBelow}
use Rattle.vipr_spec.specs.Certificate.{Problem, variables, integer_variables}
use Rattle.vipr_spec.specs.Shape.{CanWriteProblem, ConstraintShape}
use Rattle.vipr_spec.specs.Tests.{not_whole as shown, name_at, SolutionTest, whole_at}
use Rattle.vipr_spec.specs.Tests.{objective_fits, given_at, PassesSolution, solution_tests}
use Rattle.vipr_spec.specs.{Fraction.ℚ, Fraction.IsWhole, Steps.FirstFailing}
use Rattle.vipr_spec.specs.Certificate as is
use Rattle.vipr_spec.proofs.Laws.{failing_first, failing_second}
use Rattle.vipr_linear.specs.declared.constraint.Constraint.{Constraint}
use Rattle.vipr_linear.specs.{Constraint.constraint_of, Values.AreWhole, Values.IsFirstFractional}
use Rattle.vipr_cert.specs.{Items.named_of, declared.items.Named.Named}
use Rattle.vipr_rules.specs.declared.solution.SolutionError.{SolutionError}
use Rattle.vipr_rules.specs.declared.solution.SolutionError.TheVariants.{NotWhole}
use Rattle.vipr_rules.specs.Solution.{test_of, PassesAll, FailsBy, tests_at, tests_below}

-- ---- items, each with its tests
module _ {X T : Type 0} (P : T → Type 0) (f : X → List T) (xs : List X) (n : ℕ) (x d : X)
    (within : n < length xs) (this : x ≡ get_or xs n d) where
  one_more : flat_map f (take (n + 1) xs) ≡ flat_map f (take n xs) ++ f x
  one_more = grind (arith, common_steps, take_more, flat_map-append, append-nil)

  pub item_next : (found : Option T) → FirstFailing P (flat_map f (take n xs)) None
      → FirstFailing P (f x) found → FirstFailing P (flat_map f (take (n + 1) xs)) found
  item_next found before h = subst (λ ts. FirstFailing P ts found) (sym one_more)
      (failing_second P (flat_map f (take n xs)) (f x) found before h)

  pub item_fails : (t : T) → FirstFailing P (flat_map f (take n xs)) None
      → FirstFailing P (f x) (Some t) → FirstFailing P (flat_map f xs) (Some t)
  item_fails t before h =
      subst (λ l. FirstFailing P (flat_map f l) (Some t)) (take-append-drop (n + 1) xs)
      (subst (λ ts. FirstFailing P ts (Some t)) (sym (flat_map-append f (take (n + 1) xs) (drop (n + 1) xs)))
      (failing_first P (flat_map f (take (n + 1) xs)) (flat_map f (drop (n + 1) xs)) t (item_next (Some t) before h)))

-- ---- the integer variables
module _ (p : Problem) (s : Row) where
  abbrev from : ℕ → ℕ → List SolutionTest
  from a n = map whole_at (filter (contains p.integers) (range_with_len a n))

  one_from : (a n : ℕ) (found : Option SolutionTest)
      → (IsInteger p.integers a → FirstFailing (PassesSolution p s) (whole_at a ∷ from (a + 1) n)
      found)
      → (¬ IsInteger p.integers a → FirstFailing (PassesSolution p s) (from (a + 1) n) found)
      → FirstFailing (PassesSolution p s) (from a (suc n)) found
  one_from a n found there elsewhere = by (contains p.integers a) refl
    where
      by : (b : Bool) → contains p.integers a ≡ b
          → FirstFailing (PassesSolution p s)
          (map whole_at (cond b (a ∷ filter (contains p.integers) (range_with_len (a + 1) n))
          (filter (contains p.integers) (range_with_len (a + 1) n)))) found
      by true e = there e
      by false e = elsewhere (λ h. absurd (cc (e, h)))

  whole_from : AreWhole p.integers s → (a n : ℕ) → PassesAll p s (from a n)
  whole_from w a zero = refl
  whole_from w a (suc n) = search (rules, one_from, whole_from w (a + 1) n)

  pub all_whole : AreWhole p.integers s → PassesAll p s (map whole_at (integer_variables p))
  all_whole w = whole_from w 0 (variables p)

  module _ (e : ℕ × ℚ) (f : IsFirstFractional p.integers s e) where
    fails_from : (a n : ℕ) → a ≤ e.0 → e.0 < a + n → FirstFailing (PassesSolution p s) (from a n) (Some (whole_at e.0))
    fails_from a zero h l = absurd (omega (arith, h, l))
    fails_from a (suc n) h l = elim (cases_eq a e.0) [
      | inl same ↦ one_from a n _
          (λ _. inr (
            λ w. f.fractional (subst IsWhole (ap (at s) same ∙ f.coordinate) w),
            ap (λ j. Some (whole_at j)) (sym same),
          ))
          (λ not. absurd (not (subst (IsInteger p.integers) (sym same) f.integer)))
      | inr apart ↦
          let rest = fails_from (a + 1) n (omega (arith, h, apart)) (omega (arith, l)) in
          one_from a n _ (λ integer. inl (f.least a (omega (arith, h, apart)) integer, rest)) (λ _. rest)
    ]

    pub not_whole : e.0 < variables p → FailsBy p s (map whole_at (integer_variables p)) (NotWhole e.0 e.1)
    not_whole l = (
      fails_from 0 (variables p) (omega arith) (omega (arith, l)),
      λ name. ap (λ v. shown name e.0 (name_at p.names e.0) v) (sym f.coordinate),
    )

-- ---- the constraints
module _ (p : Problem) (cons : List (Named Constraint)) (same : map (named_of constraint_of) cons ≡ p.constraints) where
  pub as_many : length cons ≡ length p.constraints
  as_many = sym (length-map cons (named_of constraint_of)) ∙ ap length same

  module _ (i : ℕ) (n : Named Constraint) (within : i < length cons) (this : n ≡ get_or cons i n) where
    named : get_or p.constraints i (named_of constraint_of n) ≡ named_of constraint_of n
    named = ap (λ cs. get_or cs i (named_of constraint_of n)) (sym same)
        ∙ get_or-map (named_of constraint_of) cons i n _ within
        ∙ ap (named_of constraint_of) (sym this)

    pub given_is : given_at p i ≡ constraint_of n.item
    given_is = get_or-map (λ (m : is.Named _). m.item) p.constraints i (named_of constraint_of n) _
        (subst (λ k. i < k) as_many within) ∙ ap (λ (m : is.Named _). m.item) named

    pub given_below : CanWriteProblem p → NamesBelow (variables p) (at n.item.row)
    given_below w =
        (subst (ConstraintShape (variables p)) named
        (w.shape.constraints i (named_of constraint_of n) (subst (λ k. i < k) as_many within))).row

module _ (p : Problem) (s : Row) (i : ℕ) where
  abbrev pub TrueUpTo : Type 0
  TrueUpTo = PassesAll p s (flat_map tests_at (take i (range_with_len 0 (length p.constraints))))

  in_range : i < length p.constraints → i < length (range_with_len 0 (length p.constraints))
  in_range h = subst (λ k. i < k) (sym (length-range_with_len 0 (length p.constraints))) h

  index : i < length p.constraints → i ≡ get_or (range_with_len 0 (length p.constraints)) i i
  index h = omega (arith, get_or-range_with_len 0 (length p.constraints) i i h)

  pub true_next : i < length p.constraints → TrueUpTo → PassesAll p s (tests_at i)
      → PassesAll p s (flat_map tests_at (take (i + 1) (range_with_len 0 (length p.constraints))))
  true_next h before k = item_next (PassesSolution p s) tests_at _ i i i (in_range h) (index h) None before k

  pub constraint_fails : i < length p.constraints → TrueUpTo → (e : SolutionError)
      → FailsBy p s (tests_at i) e → FailsBy p s (tests_below (length p.constraints)) e
  constraint_fails h before e k = (
    item_fails (PassesSolution p s) tests_at _ i i i (in_range h) (index h)
        (test_of e) before k.0,
    k.1,
  )

  pub all_true : length p.constraints ≤ i → TrueUpTo → PassesAll p s (tests_below (length p.constraints))
  all_true past before = subst (λ l. PassesAll p s (flat_map tests_at l))
      (take_all i (range_with_len 0 (length p.constraints))
      (subst (λ k. k ≤ i) (sym (length-range_with_len 0 (length p.constraints))) past)) before

-- ---- all tests
module _ (p : Problem) (s : Row) where
  abbrev first : List SolutionTest
  first = map whole_at (integer_variables p)

  abbrev second : List SolutionTest
  second = tests_below (length p.constraints)

  pub integers_fail : (e : SolutionError) → FailsBy p s first e → FailsBy p s (solution_tests p) e
  integers_fail e h = (
    failing_first _ (first ++ second) (objective_fits ∷ []) (test_of e)
        (failing_first _ first second (test_of e) h.0),
    h.1,
  )

  pub constraints_fail : (e : SolutionError) → PassesAll p s first → FailsBy p s second e
      → FailsBy p s (solution_tests p) e
  constraints_fail e a h = (
    failing_first _ (first ++ second) (objective_fits ∷ []) (test_of e)
        (failing_second _ first second (Some (test_of e)) a h.0),
    h.1,
  )

  pub objective_last : (found : Option SolutionTest) → PassesAll p s first → PassesAll p s second
      → FirstFailing (PassesSolution p s) (objective_fits ∷ []) found
      → FirstFailing (PassesSolution p s) (solution_tests p) found
  objective_last found a b h = failing_second _ (first ++ second) (objective_fits ∷ []) found
      (failing_second _ first second None a b) h

pub objective_below : (p : Problem) (row : Row) → row ≡ p.objective → CanWriteProblem p
    → NamesBelow (variables p) (at row)
objective_below p row same w = subst (λ r. NamesBelow (variables p) (at r)) (sym same) w.shape.objective
