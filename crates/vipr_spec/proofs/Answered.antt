-- It can't be that a text has no answer
use Rattle.std.proofs.Common.{◌≡◌, ℕ, zero, suc, ◌≤◌, ◌<◌, ◌⊎◌, Option, Some, None, MatchOption}
use Rattle.std.proofs.Common.{arith, refl, sym, subst, inl, inr, ⊎_elim, length, All, Result, Ok}
use Rattle.std.proofs.Common.{Err}
use Rattle.std.proofs.{lemmas.Bool.cases_lt, lemmas.List.Elements.All-contains}
use Rattle.std.specs.Prelude.{IsSome}
use Rattle.vipr_spec.specs.{ℚ, Profile, IsInteger, Problem, variables, Claim, infeasible, range}
use Rattle.vipr_spec.specs.{dual_bound, NeedsGoal, ProvesDual, IsGoal, peak, Rest, Fault}
use Rattle.vipr_spec.specs.{certificate_read, FirstFailing, Test, spelled, meets_dual, Passes}
use Rattle.vipr_spec.specs.{Found, found_in, Report, Reports, Answer, verified, answer_of_test}
use Rattle.vipr_spec.specs.{IsAnswer, Certificate.Certificate}
use Rattle.vipr_spec.proofs.FirstFailing.{failing_some, none_all}
use Rattle.vipr_spec.proofs.WholeText.{Whole, whole_read}
use Rattle.vipr_spec.proofs.{AllTests.proof_of_tests, GrammarWhole.integers_read_below}

-- where some index has a property, it can't be that none is the least with it
least : (Q : ℕ → Type 0) (bound k : ℕ) → k < bound → Q k
    → ¬ ¬ ((m : ℕ) × Q m × ((i : ℕ) → Q i → m ≤ i))
least Q zero k lt q n = absurd (omega arith)
least Q (suc b) k lt q n =
    n (
      k,
      q,
      λ i r. ⊎_elim (λ (l : i < k). absurd (least Q b i (omega arith) r n))
          (λ (l : k ≤ i). l) (cases_lt i k),
    )

needs_or_not : (p : Problem) (q : Claim) → NeedsGoal p q ⊎ ¬ NeedsGoal p q
needs_or_not p infeasible = inl tt
needs_or_not p (range lower upper) = by (dual_bound p.direction lower upper)
  where
    by : (o : Option ℚ) → IsSome o ⊎ ¬ IsSome o
    by None = inr (λ e. cc)
    by (Some x) = inl refl

module _ (P : Profile) where
  abbrev report : Certificate → Option ℕ → Report
  report c goal = record {
    claim = c.problem.claim;
    solutions = length c.solutions;
    derived = length c.derivations;
    peak = peak c;
    goal = goal;
  }

  reported : (c : Certificate) (goal : Option ℕ)
      → MatchOption goal (¬ NeedsGoal c.problem c.problem.claim) (IsGoal P c)
      → Reports P c (report c goal)
  reported c goal g = record { claim = refl; solutions = refl; derived = refl; peak = refl; goal = g }

  -- a goal that is needed is proved, where the last test passes
  some_report : (c : Certificate) → ¬ ¬ Passes P c meets_dual → ¬ ¬ ((r : Report) × Reports P c r)
  some_report c p n = by (needs_or_not c.problem c.problem.claim)
    where
      by : NeedsGoal c.problem c.problem.claim ⊎ ¬ NeedsGoal c.problem c.problem.claim → ⊥
      by (inl y) =
          p (λ q. let g = q y in least (ProvesDual P c) (suc g.0) g.0 (omega arith) g.1
          (λ m. n (report c (Some m.0), reported c (Some m.0) (m.1, m.2))))
      by (inr y) = n (report c None, reported c None y)

  -- where no test fails, the last one passes
  dual_passes : (found : Found) (x : Result Certificate Fault)
      → ((c : Certificate) → x ≡ Ok c → (j : ℕ) → IsInteger c.problem.integers j
      → j < variables c.problem) → Whole found x → All (Passes P found.certificate) found.tests
      → Passes P found.certificate meets_dual
  dual_passes found (Err f) below w a = absurd (All-contains (Passes P found.certificate) found.tests (spelled f) a w)
  dual_passes found (Ok c) below w a = subst (λ g. Passes P g.certificate meets_dual) (sym w)
      (proof_of_tests P c (below c refl)
      (subst (λ g. All (Passes P g.certificate) g.tests) w a)).dual

  pub some_answer : (r : Rest) → ¬ ¬ ((a : Answer) × IsAnswer P r a)
  some_answer r n = failing_some (Passes P (found_in r).certificate) (found_in r).tests (λ h. by h.0 h.1)
    where
      by : (f : Option Test) → FirstFailing (Passes P (found_in r).certificate) (found_in r).tests f → ⊥
      by (Some t) q = n (answer_of_test t, (Some t, q, refl))
      by None q = some_report (found_in r).certificate
          (λ m. m (dual_passes (found_in r) (certificate_read r) (integers_read_below r)
          (whole_read r) (none_all (Passes P (found_in r).certificate) (found_in r).tests q)))
          (λ s. n (verified s.0, (None, q, (s.0, s.1, refl))))
