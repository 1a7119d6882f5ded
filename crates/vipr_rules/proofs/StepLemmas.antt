-- What the parts of a derivation's tests say of all of them, and what is kept of it.
use Rattle.std.proofs.Common.{◌≡◌, ℕ, ◌<◌, ◌≤◌, length, IsTrue, true, false, ◌||◌, nat_eq, ap₂}
use Rattle.std.proofs.Common.{arith, List, [], ◌∷◌, ◌++◌, Some, None, refl, sym, ◌∙◌, ap, subst}
use Rattle.std.proofs.Common.{inl, inr, All, append_assoc}
use Rattle.std.proofs.lemmas.List.Elements.{All-nil, All-cons}
use Rattle.std.proofs.lemmas.Result.{MatchResult-weaker}
use Rattle.std.proofs.{lemmas.Bool.cases_lt, lemmas.Bool.Decides.nat_tests}
use Rattle.std.specs.Prelude.{◌↔◌, ◌⊎◌, Result, Ok, Err, IfOk, MatchResult, flat_map}
use Rattle.std.specs.Result.{result_and, result_unwrap_or}
use Rattle.std.specs.FinSet.{FinSet, contains, empty, insert, contains-insert, contains-empty}
use Rattle.std.specs.{Cmp.nat_cmp_total, Cmp.unsigned_tied, Ordering.nat_cmp}
use Rattle.vipr_spec.specs.Constraint.{Condition, Profile, condition, sum_of, Dominates, Combines}
use Rattle.vipr_spec.specs.Certificate.{Certificate, Derivation, Reason, asm, sol, entries, count}
use Rattle.vipr_spec.specs.Certificate.{is_assumption, is_live, NamesEarlier}
use Rattle.vipr_spec.specs.Steps.{PassesStep, with_next, RefersBack, StepTest, by_sum, step_tests}
use Rattle.vipr_spec.specs.Steps.{step_cause, compared, IsSum, reference_tests}
use Rattle.vipr_spec.specs.{Fraction.ℚ, Soundness.IsSound}
use Rattle.vipr_spec.proofs.Laws.{failing_first, failing_second, one_sense, constraint_next}
use Rattle.vipr_spec.proofs.Laws.{reason_next, last_next, rests_next, sound_given, sound_next}
use Rattle.vipr_spec.proofs.Laws.{next_good, failing_parts}
use Rattle.vipr_linear.specs.{Constraint.condition_of, declared.constraint.Constraint.Constraint}
use Rattle.vipr_rules.specs.declared.error.RuleError.TheVariants.{Memory}
use Rattle.vipr_rules.specs.Apply.{StopsIn, PassesTestsIn, ReportsTest, KeepsSound, IsRefusalIn}
use Rattle.vipr_rules.specs.Apply.{IsNotDominated, IsRuledBy, shown_by, free_tests, named_tests, FindsSetBy, FindsSetIn}
use Rattle.vipr_rules.specs.{Context.IsSetByReason, declared.error.RuleError.RuleError}
use Rattle.vipr_table.specs.{History.IsEntryOf, declared.rows.Entry.Entry}

-- ---- one list of tests after another
pub stops_first : (P : Profile) (c : Certificate) (d : Derivation) (xs ys : List StepTest)
    (e : RuleError) → StopsIn P c d xs e → StopsIn P c d (xs ++ ys) e
stops_first P c d xs ys e (t, f, known) = (t, failing_first (PassesStep P c (condition d.stated)) xs ys t f, known)

pub stops_second : (P : Profile) (c : Certificate) (d : Derivation) (xs ys : List StepTest)
    (e : RuleError) → PassesTestsIn P c d xs → StopsIn P c d ys e → StopsIn P c d (xs ++ ys) e
stops_second P c d xs ys e p (t, f, known) =
    (t, failing_second (PassesStep P c (condition d.stated)) xs ys (Some t) p f, known)

pub passes_both : (P : Profile) (c : Certificate) (d : Derivation) (xs ys : List StepTest)
    → PassesTestsIn P c d xs → PassesTestsIn P c d ys → PassesTestsIn P c d (xs ++ ys)
passes_both P c d xs ys p q = failing_second (PassesStep P c (condition d.stated)) xs ys None p q

module _ (P : Profile) (c : Certificate) (d : Derivation) where
  pub passes_one : (t : StepTest) → PassesStep P c (condition d.stated) t → PassesTestsIn P c d (t ∷ [])
  passes_one t h = inl (h, refl)

  pub stops_one : (t : StepTest) (e : RuleError) → ¬ PassesStep P c (condition d.stated) t
      → ReportsTest c d e t → StopsIn P c d (t ∷ []) e
  stops_one t e bad known = (t, inr (bad, refl), known)

pub refusal : (P : Profile) (c : Certificate) (d : Derivation) (e : RuleError)
    → StopsIn P c d (step_tests d.reason) e → IsRefusalIn P c d e
refusal P c d e (t, f, known) = (step_cause t, known.0, known.1, (t, f, refl, known.2))

-- an error that says which test fails isn't want of memory
pub known_is_not_memory : (P : Profile) (c : Certificate) (d : Derivation) (ts : List StepTest)
    (e : RuleError) → StopsIn P c d ts e → ¬ (e ≡ Memory)
known_is_not_memory P c d ts e (t, f, known) is = let none = sym (ap shown_by is) ∙ known.1 in cc

-- where all tests pass, those that take no memory do
pub free_of_all : (P : Profile) (c : Certificate) (d : Derivation) (r : Reason)
    → PassesTestsIn P c d (step_tests r) → PassesTestsIn P c d (free_tests r)
free_of_all P c d r p = grind arith

-- ---- by `lin`
module _ (P : Profile) (c : Certificate) (d : Derivation) (es : List (ℕ × ℚ)) (computed : Condition)
    (stated : Constraint) (summed : IsSum c es computed)
    (says : condition_of stated ≡ condition d.stated) where
  combines : Dominates computed (condition_of stated) → Combines (entries c es) (condition d.stated)
  combines h = (
    summed.0,
    summed.1,
    subst (λ x. Dominates x (condition d.stated)) summed.2
        (subst (Dominates computed) says h),
  )

  combines_not : ¬ Dominates computed (condition_of stated) → ¬ Combines (entries c es) (condition d.stated)
  combines_not bad (s, h, dom) =
      bad (subst (Dominates computed) (sym says)
      (subst (λ x. Dominates x (condition d.stated))
      (ap (sum_of (entries c es)) (one_sense (entries c es) s summed.0 h summed.1)
      ∙ sym summed.2) dom))

  pub dominated : Dominates computed (condition_of stated) → PassesTestsIn P c d (by_sum es ∷ [])
  dominated h = passes_one P c d (by_sum es) (combines h)

  -- the sum is laid out for what is told
  pub not_dominated : (sum : Constraint) → condition_of sum ≡ computed → (e : RuleError)
      → IsNotDominated sum stated e → StopsIn P c d (by_sum es ∷ []) e
  not_dominated sum same e (is, bad) =
      stops_one P c d (by_sum es) e
      (combines_not (λ h. bad (subst (λ x. Dominates x (condition_of stated)) (sym same) h)))
      (compared (condition_of sum) (condition_of stated), is, (computed, summed, ap₂ compared same says))

-- the same of a constraint that says what the sum says
pub laid_out_known : (r : Result (Unit {0}) RuleError) (sum stated : Constraint)
    (computed : Condition) → condition_of sum ≡ computed
    → MatchResult r (λ _. Dominates (condition_of sum) (condition_of stated))
    (λ e. (e ≡ Memory) ⊎ IsNotDominated sum stated e)
    → MatchResult r (λ _. Dominates computed (condition_of stated)) (λ e. (e ≡ Memory)
    ⊎ ((x : Constraint) × (condition_of x ≡ computed) × IsNotDominated x stated e))
laid_out_known (Ok u) sum stated computed same h = subst (λ x. Dominates x (condition_of stated)) same h
laid_out_known (Err e) sum stated computed same (inl memory) = inl memory
laid_out_known (Err e) sum stated computed same (inr known) = inr (sum, same, known)

-- ---- outcomes that are chained
-- what follows of the second one if the first one is no error
pub follows_if_ok : {S : Type 0} (r : Result (Unit {0}) RuleError) (s : Result S RuleError)
    (A : Type 0) (B : RuleError → Type 0) (Q : S → Type 0)
    → MatchResult r (λ _. A) B → (A → IfOk s Q) → IfOk (result_and r s) Q
follows_if_ok r s A B Q h f = grind arith

-- a set that is found, unless a growth was refused
module _ {E : Type 0} (found : Result (FinSet nat_cmp) E) (r : Result (FinSet nat_cmp) RuleError)
    (Q : FinSet nat_cmp → Type 0) where
  pub found_or_memory : MatchResult found (λ s. r ≡ Ok s) (λ _. r ≡ Err Memory) → IfOk found Q
      → MatchResult r Q (λ e. e ≡ Memory)
  found_or_memory is h = by found is h
    where
      by : (o : Result (FinSet nat_cmp) E) → MatchResult o (λ s. r ≡ Ok s) (λ _. r ≡ Err Memory)
          → IfOk o Q → MatchResult r Q (λ e. e ≡ Memory)
      by (Ok s) is h = subst (λ x. MatchResult x Q (λ e. e ≡ Memory)) (sym is) h
      by (Err e) is h = subst (λ x. MatchResult x Q (λ e. e ≡ Memory)) (sym is) refl

  pub found_if_ok : MatchResult found (λ s. r ≡ Ok s) (λ _. r ≡ Err Memory) → IfOk found Q → IfOk r Q
  found_if_ok is h = by found is h
    where
      by : (o : Result (FinSet nat_cmp) E) → MatchResult o (λ s. r ≡ Ok s) (λ _. r ≡ Err Memory) → IfOk o Q → IfOk r Q
      by (Ok s) is h = subst (λ x. IfOk x Q) (sym is) h
      by (Err e) is h = subst (λ x. IfOk x Q) (sym is) tt

-- an error that is made, unless a growth was refused
pub error_or_memory : {E : Type 0} (made : Result RuleError E) (e : RuleError)
    (Q : RuleError → Type 0) → e ≡ result_unwrap_or made Memory → IfOk made Q
    → (e ≡ Memory) ⊎ Q e
error_or_memory made e Q is h = grind arith

pub assumption_ruled : (P : Profile) (c : Certificate) (d : Derivation)
    (r : Result (FinSet nat_cmp) RuleError)
    → MatchResult r (IsSetByReason c asm) (λ e. e ≡ Memory) → IsRuledBy P c d asm r
assumption_ruled P c d r h = grind arith

-- ---- what an assumption rests on
pub own_set : (n a : ℕ) → IsTrue (contains (insert {R = nat_cmp} empty n) a) ↔ (n ≡ a)
own_set n a = (λ t. out (sym (contained a) ∙ t), λ e. contained a ∙ back e)
  where
    contained : (a : ℕ) → contains (insert {R = nat_cmp} empty n) a ≡ (nat_eq a n || false)
    contained a = contains-insert nat_cmp_total empty n a
        ∙ ap₂ (λ x y. x || y) (unsigned_tied a n) (contains-empty nat_cmp a)

    out : (nat_eq a n || false) ≡ true → n ≡ a
    out h = grind (arith, nat_tests)

    back : n ≡ a → (nat_eq a n || false) ≡ true
    back e = grind (arith, nat_tests)

pub no_set : (c : Certificate) (s : FinSet nat_cmp) → s ≡ empty → IsSetByReason c sol s
no_set c s e a = (
  λ t. let h : contains {R = nat_cmp} empty a ≡ true = subst (λ x. contains x a ≡ true) e t in
      absurd (let n = contains-empty nat_cmp a in cc),
  λ r. absurd r,
)

-- ---- what is kept
pub kept_entry : (P : Profile) (c : Certificate) (d : Derivation) (e : Entry) → RefersBack c
    → PassesTestsIn P c d (step_tests d.reason)
    → condition_of e.constraint ≡ condition d.stated → IsSetByReason c d.reason e.assumptions
    → e.is_assumption ≡ is_assumption (Some d.reason) → e.last ≡ d.last
    → IsEntryOf (with_next c d) (count c) e
kept_entry P c d e back passes says rests assumed last =
    grind (arith, constraint_next, rests_next, next_good, reason_next, last_next)

-- ---- the induction over the derivations
pub keeps_sound : (P : Profile) (c : Certificate) (d : Derivation) → RefersBack c
    → PassesTestsIn P c d (step_tests d.reason) → KeepsSound c d
keeps_sound P c d back passes s =
    let good = next_good P c d passes in
    sound_next P c d back good.earlier good.follows
    (λ i r. by i (cases_lt i (length c.problem.constraints)) (good.references i r))
  where
    by : (i : ℕ) → (i < length c.problem.constraints) ⊎ (length c.problem.constraints ≤ i)
        → IsTrue (is_live c (count c) i) → IsSound c i
    by i (inl given) live = sound_given c i given
    by i (inr derived) live = s i derived live

-- ---- the tests of what a reason names
module _ (P : Profile) (c : Certificate) (d : Derivation) where
  pub named_stops : (r : Reason) (e : RuleError) → StopsIn P c d (named_tests r) e → StopsIn P c d (step_tests r) e
  named_stops r e s = grind (arith, failing_first, append_assoc)

  entries_earlier : (es : List (ℕ × ℚ)) → PassesTestsIn P c d (flat_map reference_tests es)
      → All (λ e. e.0 < count c) es
  entries_earlier [] p = All-nil (λ e. e.0 < count c)
  entries_earlier (e ∷ es) p =
      let parts = failing_parts (PassesStep P c (condition d.stated)) (reference_tests e)
      (flat_map reference_tests es) None p in
      grind (arith, entries_earlier es, All-cons (λ (e : ℕ × ℚ). e.0 < count c) e es)

  named_earlier : (r : Reason) → PassesTestsIn P c d (named_tests r) → NamesEarlier (count c) (Some r)
  named_earlier r p = grind (arith, entries_earlier)

  pub finds_in : (r : Reason) (x : Result (FinSet nat_cmp) RuleError) → d.reason ≡ r
      → FindsSetBy P c d r x → FindsSetIn P c d x
  finds_in r x same h =
      let found = subst (λ r. FindsSetBy P c d r x) (sym same) h in (
        found,
        MatchResult-weaker x found (λ s k. named_earlier d.reason k.0)
            (λ e k. elim k [
              | inl memory ↦ inl memory
              | inr stops ↦
                  inr (refusal P c d e (named_stops d.reason e stops))
            ]),
      )
