-- The tests of a sum's entries, one entry after another.
use Rattle.std.proofs.Common.{◌≡◌, ℕ, zero, suc, ◌+◌, ◌-◌, ◌<◌, ◌≤◌, true, false, List, [], ◌∷◌}
use Rattle.std.proofs.Common.{◌++◌, length, length-drop, take, drop, get_or, Option, Some, None}
use Rattle.std.proofs.Common.{refl, sym, ap, ◌∙◌, subst, append_assoc, inl, inr, arith, rules}
use Rattle.std.proofs.lemmas.List.{append-nil, take-append-drop, length-take-le}
use Rattle.std.proofs.{Math.Seq.take-suc, Math.Seq.take-length, lemmas.Grind.flat_map-append}
use Rattle.std.specs.{List.flat_map, Prelude.if◌then◌else◌}
use Rattle.vipr_spec.specs.Constraint.{condition, Profile}
use Rattle.vipr_spec.specs.Certificate.{Certificate, Derivation, entries}
use Rattle.vipr_spec.specs.Steps.{PassesStep, StepTest, earlier, live, suitable, fitting}
use Rattle.vipr_spec.specs.Steps.{FirstFailing, reference_tests, entry_tests, position}
use Rattle.vipr_spec.specs.{Fraction.ℚ, Reading.is_nonzero}
use Rattle.vipr_rules.specs.declared.error.RuleError.{RuleError}
use Rattle.vipr_rules.specs.Apply.{PassesTestsIn, StopsIn, SumStops, shown_by}
use Rattle.vipr_spec.proofs.Laws.{failing_first, failing_second}

pub entry_tests-append : (before xs ys : List (ℕ × ℚ))
    → entry_tests before (xs ++ ys) ≡ entry_tests before xs ++ entry_tests (before ++ xs) ys
unfolding entry_tests
entry_tests-append before [] ys = ap (λ l. entry_tests l ys) (sym (append-nil before))
entry_tests-append before (x ∷ xs) ys = search (rules, append_assoc, entry_tests-append (before ++ x ∷ []) xs ys)

pub one_more : (es : List (ℕ × ℚ)) (n : ℕ) (e : ℕ × ℚ) → n < length es → e ≡ get_or es n e
    → take (n + 1) es ≡ take n es ++ e ∷ []
one_more es n e within is = ap (λ k. take k es) (let s : n + 1 ≡ suc n = omega arith in s)
    ∙ take-suc es n e within ∙ ap (λ x. take n es ++ x ∷ []) (sym is)

pub take_all : (es : List (ℕ × ℚ)) (n : ℕ) → length es ≤ n → take n es ≡ es
take_all [] zero h = refl
take_all [] (suc n) h = refl
take_all (x ∷ es) zero h = absurd (omega arith)
take_all (x ∷ es) (suc n) h = ap (λ l. x ∷ l) (take_all es n (omega arith))

module _ (P : StepTest → Type 0) (es : List (ℕ × ℚ)) (n : ℕ) (e : ℕ × ℚ) (within : n < length es)
    (is : e ≡ get_or es n e) where
  abbrev so_far : List (ℕ × ℚ)
  so_far = take n es

  one_more' : take (n + 1) es ≡ so_far ++ e ∷ []
  one_more' = one_more es n e within is

  parts : es ≡ (so_far ++ e ∷ []) ++ drop (n + 1) es
  parts = sym (take-append-drop (n + 1) es) ∙ ap (λ l. l ++ drop (n + 1) es) one_more'

  step_tests_of : entry_tests [] (so_far ++ e ∷ []) ≡ entry_tests [] so_far
      ++ suitable (so_far ++ e ∷ []) ∷ fitting (so_far ++ e ∷ []) ∷ []
  unfolding entry_tests
  step_tests_of = entry_tests-append [] so_far (e ∷ [])

  -- the entry passes
  pub entry_passes : FirstFailing P (entry_tests [] so_far) None → P (suitable (so_far ++ e ∷ []))
      → P (fitting (so_far ++ e ∷ [])) → FirstFailing P (entry_tests [] (take (n + 1) es)) None
  entry_passes before s f = search (rules, one_more', step_tests_of, failing_second)

  -- its sign or its size is the first thing that fails
  fails : (t : StepTest) → FirstFailing P (entry_tests [] so_far) None
      → FirstFailing P (suitable (so_far ++ e ∷ []) ∷ fitting (so_far ++ e ∷ []) ∷ []) (Some t)
      → FirstFailing P (entry_tests [] es) (Some t)
  fails t before h = search (rules, parts, entry_tests-append, failing_first, step_tests_of, failing_second)

  pub sign_fails : FirstFailing P (entry_tests [] so_far) None → ¬ P (suitable (so_far ++ e ∷ []))
      → FirstFailing P (entry_tests [] es) (Some (suitable (take (n + 1) es)))
  sign_fails before bad = subst (λ l. FirstFailing P (entry_tests [] es) (Some (suitable l)))
      (sym one_more') (fails _ before (inr (bad, refl)))

  pub size_fails : FirstFailing P (entry_tests [] so_far) None → P (suitable (so_far ++ e ∷ []))
      → ¬ P (fitting (so_far ++ e ∷ []))
      → FirstFailing P (entry_tests [] es) (Some (fitting (take (n + 1) es)))
  size_fails before s bad = subst (λ l. FirstFailing P (entry_tests [] es) (Some (fitting l)))
      (sym one_more') (fails _ before (inl (s, inr (bad, refl))))

  -- ---- the references
  pub references_more : (f : Option StepTest)
      → FirstFailing P (flat_map reference_tests so_far) None → FirstFailing P (reference_tests e) f
      → FirstFailing P (flat_map reference_tests (take (n + 1) es)) f
  references_more f before h = search (rules, one_more', flat_map-append, append-nil, failing_second)

  pub reference_fails : (t : StepTest) → FirstFailing P (flat_map reference_tests so_far) None
      → FirstFailing P (reference_tests e) (Some t) → FirstFailing P (flat_map reference_tests es)
      (Some t)
  reference_fails t before h =
      subst (λ l. FirstFailing P (flat_map reference_tests l) (Some t)) (sym (sym (take-append-drop (n + 1) es)))
      (subst (λ ts. FirstFailing P ts (Some t))
      (sym (flat_map-append reference_tests (take (n + 1) es) (drop (n + 1) es)))
      (failing_first P (flat_map reference_tests (take (n + 1) es))
      (flat_map reference_tests (drop (n + 1) es)) t (references_more (Some t) before h)))

-- what an entry that can't be added tells of the whole sum
at_position : (es : List (ℕ × ℚ)) (n : ℕ) → n < length es → n ≡ length (take (n + 1) es) - 1
at_position es n h = let e = length-take-le (n + 1) es (omega arith) in omega (arith, e)

pub sum_stops : (P : Profile) (c : Certificate) (d : Derivation) (es : List (ℕ × ℚ)) (n : ℕ)
    (e : ℕ × ℚ) (error : RuleError) → n < length es → e ≡ get_or es n e
    → PassesTestsIn P c d (entry_tests [] (take n es))
    → SumStops (entries c (take n es ++ e ∷ [])) n error
    → StopsIn P c d (entry_tests [] es) error
sum_stops P c d es n e error lt is before (inl (this, bad)) = (
  suitable (take (n + 1) es),
  sign_fails (PassesStep P c (condition d.stated)) es n e lt is
      before bad,
  (position n, ap shown_by this, ap position (at_position es n lt)),
)
sum_stops P c d es n e error lt is before (inr (this, good, bad)) = (
  fitting (take (n + 1) es),
  size_fails (PassesStep P c (condition d.stated)) es n e lt is before
      good bad,
  (position n, ap shown_by this, ap position (at_position es n lt)),
)

-- the references of an entry
pub used_passes : (P : StepTest → Type 0) (e : ℕ × ℚ) (f : Option StepTest) → is_nonzero e ≡ true
    → FirstFailing P (earlier e.0 ∷ live e.0 ∷ []) f → FirstFailing P (reference_tests e) f
used_passes P e f some h =
    subst (λ b. FirstFailing P (if b then earlier e.0 ∷ live e.0 ∷ [] else earlier e.0 ∷ []) f)
    (sym some) h

pub unused_passes : (P : StepTest → Type 0) (e : ℕ × ℚ) (f : Option StepTest) → is_nonzero e ≡ false
    → FirstFailing P (earlier e.0 ∷ []) f → FirstFailing P (reference_tests e) f
unused_passes P e f none h =
    subst (λ b. FirstFailing P (if b then earlier e.0 ∷ live e.0 ∷ [] else earlier e.0 ∷ []) f)
    (sym none) h

-- those of the first entries pass, and then those behind them are tested
pub references_rest : (P : StepTest → Type 0) (es : List (ℕ × ℚ)) (n : ℕ) (f : Option StepTest)
    → FirstFailing P (flat_map reference_tests (take n es)) None
    → FirstFailing P (flat_map reference_tests (drop n es)) f
    → FirstFailing P (flat_map reference_tests es) f
references_rest P es n f h k =
    subst (λ l. FirstFailing P (flat_map reference_tests l) f) (take-append-drop n es)
    (subst (λ ts. FirstFailing P ts f)
    (sym (flat_map-append reference_tests (take n es) (drop n es)))
    (failing_second P (flat_map reference_tests (take n es))
    (flat_map reference_tests (drop n es)) f h k))

-- the entries from one on, as a slice
pub to_end : (es : List (ℕ × ℚ)) (i : ℕ) → take (length es - i) (drop i es) ≡ drop i es
to_end es i = ap (λ n. take n (drop i es)) (sym (length-drop i es)) ∙ take-length (drop i es)
