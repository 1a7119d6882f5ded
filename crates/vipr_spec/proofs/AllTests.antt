-- All tests of a certificate pass exactly where it is a proof
use Rattle.std.proofs.Common.{◌≡◌, ℕ, zero, suc, ◌+◌, ◌-◌, ◌<◌, List, [], ◌∷◌, ◌++◌, map, length}
use Rattle.std.proofs.Common.{slice_index_or, unwrap_or, Some, None, All, arith, sym, ◌∙◌, ap}
use Rattle.std.proofs.Common.{subst, subst₂}
use Rattle.std.proofs.lemmas.List.Elements.{All-nil, All-cons, All-head, All-tail, All-append}
use Rattle.std.proofs.lemmas.List.Elements.{All-map}
use Rattle.std.proofs.{Math.ListN.length-map, lemmas.List.get_or-append-add, lemmas.List.get_or-map}
use Rattle.std.specs.FinMap.{empty}
use Rattle.vipr_spec.specs.{zero_ℚ, Profile, IsInteger, at, equal, Named, asm, Derivation, Known}
use Rattle.vipr_spec.specs.{given_constraint, derived_constraint, variables, constraint_at}
use Rattle.vipr_spec.specs.{reason_at, IsFeasible, SolutionFits, HasGoodSteps, IsProof, before}
use Rattle.vipr_spec.specs.{PassesStep, step_tests, FirstFailing, Test, of_solution, meets_primal}
use Rattle.vipr_spec.specs.{of_step, meets_dual, Passes, solution_tests, numbered_tests}
use Rattle.vipr_spec.specs.{tests_of_solution, tests_of_derivation, proof_tests}
use Rattle.vipr_spec.specs.{Certificate.Certificate, Constraint.Constraint}
use Rattle.vipr_spec.proofs.FirstFailing.{none_all, all_none, all_parts}
use Rattle.vipr_spec.proofs.SolutionTests.{feasible_of_tests, tests_of_feasible}
use Rattle.vipr_spec.proofs.{Prefix.is_derived, Steps.good_before}

-- ---- the tests of numbered items
numbered_of : {A : Type 0} (P : Test → Type 0) (tests : ℕ → A → List Test) (n : ℕ) (xs : List A)
    → All P (numbered_tests tests n xs) → (k : ℕ) (d : A) → k < length xs
    → All P (tests (n + k) (slice_index_or xs k d))
unfolding numbered_tests
numbered_of P tests n [] a k d h = absurd (omega arith)
numbered_of P tests n (x ∷ xs) a zero d h =
    let e : n ≡ n + 0 = omega arith in
    subst (λ i. All P (tests i x)) e (all_parts P (tests n x) (numbered_tests tests (suc n) xs) a).0
numbered_of P tests n (x ∷ xs) a (suc k) d h =
    let e : suc n + k ≡ n + suc k = omega arith in
    subst (λ i. All P (tests i (slice_index_or xs k d))) e
    (numbered_of P tests (suc n) xs
    (all_parts P (tests n x) (numbered_tests tests (suc n) xs) a).1 k d (omega arith))

numbered_all : {A : Type 0} (P : Test → Type 0) (tests : ℕ → A → List Test) (n : ℕ) (xs : List A)
    → ((k : ℕ) (d : A) → k < length xs → All P (tests (n + k) (slice_index_or xs k d)))
    → All P (numbered_tests tests n xs)
unfolding numbered_tests
numbered_all P tests n [] f = All-nil P
numbered_all P tests n (x ∷ xs) f =
    let e : n + 0 ≡ n = omega arith in
    All-append P (tests n x) (numbered_tests tests (suc n) xs)
    (subst (λ i. All P (tests i x)) e (f 0 x (omega arith)))
    (numbered_all P tests (suc n) xs (λ k d h. let g : n + suc k ≡ suc n + k = omega arith in
    subst (λ i. All P (tests i (slice_index_or xs k d))) g (f (suc k) d (omega arith))))

unmapped : {A : Type 0} (P : Test → Type 0) (f : A → Test) (xs : List A) → All P (map f xs)
    → All (λ x. P (f x)) xs
unmapped P f [] a = All-nil (λ x. P (f x))
unmapped P f (x ∷ xs) a = All-cons (λ x. P (f x)) x xs (All-head P (f x) (map f xs) a)
    (unmapped P f xs (All-tail P (f x) (map f xs) a))

-- ---- each derivation
after_given : (xs : List (Named Constraint)) (ys : List Derivation) (k : ℕ) (d : Derivation)
    (none : Known) → k < length ys
    → slice_index_or (map given_constraint xs ++ map derived_constraint ys) (length xs + k) none
    ≡ derived_constraint (slice_index_or ys k d)
after_given xs ys k d none h = grind (arith, length-map, get_or-append-add, get_or-map)

reason_derived : (c : Certificate) (k : ℕ) (d : Derivation) → k < length c.derivations
    → reason_at c (length c.problem.constraints + k)
    ≡ Some (slice_index_or c.derivations k d).reason
reason_derived c k d h = ap (λ (x : Known). x.reason) (after_given c.problem.constraints c.derivations k d _ h)

nothing : Derivation
nothing = record {
  name = [];
  stated = record { row = empty; sense = equal; bound = zero_ℚ };
  reason = asm;
  last = None;
}

-- ---- all tests
module _ (P : Profile) (c : Certificate) where
  abbrev m : ℕ
  m = length c.problem.constraints

  steps_of : All (Passes P c) (numbered_tests tests_of_derivation m c.derivations) → HasGoodSteps P c
  steps_of a k r e =
      let h = is_derived c k r e in
      let j = k - m in
      let at : m + j ≡ k = omega arith in
      let d = slice_index_or c.derivations j nothing in
      let q = reason_derived c j nothing (omega arith) in
      let same : d.reason ≡ r = ap (λ o. unwrap_or o r) (sym q ∙ ap (reason_at c) at ∙ e) in
      let passed =
      none_of (m + j) d
      (numbered_of (Passes P c) tests_of_derivation m c.derivations a j nothing (omega arith))
      in
      (good_before P c k r e).0
      (subst₂ (λ n q. FirstFailing (PassesStep P (before c n) (constraint_at c n))
      (step_tests q) None) at same passed)
    where
      none_of : (k : ℕ) (d : Derivation) → All (Passes P c) (tests_of_derivation k d)
          → FirstFailing (PassesStep P (before c k) (constraint_at c k)) (step_tests d.reason) None
      none_of k d a = all_none (PassesStep P (before c k) (constraint_at c k)) (step_tests d.reason)
          (unmapped (Passes P c) (of_step k) (step_tests d.reason) a)

  of_steps : HasGoodSteps P c → All (Passes P c) (numbered_tests tests_of_derivation m c.derivations)
  of_steps g = numbered_all (Passes P c) tests_of_derivation m c.derivations (λ j d h.
      let r = (slice_index_or c.derivations j d).reason in
      let q = reason_derived c j d h in
      All-map (Passes P c) (of_step (m + j)) (step_tests r)
      (none_all (PassesStep P (before c (m + j)) (constraint_at c (m + j))) (step_tests r)
      ((good_before P c (m + j) r q).1 (g (m + j) r q))))

  solutions_of : ((j : ℕ) → IsInteger c.problem.integers j → j < variables c.problem)
      → All (Passes P c) (numbered_tests (tests_of_solution c.problem) 0 c.solutions)
      → All (λ s. IsFeasible c.problem (at s.item) × SolutionFits c.problem (at s.item)) c.solutions
  solutions_of below a k d h = feasible_of_tests c.problem (slice_index_or c.solutions k d).item below
      (unmapped (Passes P c) (of_solution (0 + k) (slice_index_or c.solutions k d).item)
      (solution_tests c.problem)
      (numbered_of (Passes P c) (tests_of_solution c.problem) 0 c.solutions a k d h))

  of_solutions : All (λ s. IsFeasible c.problem (at s.item)) c.solutions
      → All (λ s. SolutionFits c.problem (at s.item)) c.solutions
      → All (Passes P c) (numbered_tests (tests_of_solution c.problem) 0 c.solutions)
  of_solutions f g = numbered_all (Passes P c) (tests_of_solution c.problem) 0 c.solutions (λ k d h.
      All-map (Passes P c) (of_solution (0 + k) (slice_index_or c.solutions k d).item)
      (solution_tests c.problem)
      (tests_of_feasible c.problem (slice_index_or c.solutions k d).item (f k d h) (g k d h)))

  pub proof_of_tests : ((j : ℕ) → IsInteger c.problem.integers j → j < variables c.problem)
      → All (Passes P c) (proof_tests c) → IsProof P c
  proof_of_tests below a =
      let one = all_parts (Passes P c) (numbered_tests (tests_of_solution c.problem) 0 c.solutions)
      (meets_primal ∷ (numbered_tests tests_of_derivation m c.derivations ++ meets_dual ∷ []))
      a in
      let two = all_parts (Passes P c) (numbered_tests tests_of_derivation m c.derivations)
      (meets_dual ∷ [])
      (All-tail (Passes P c) meets_primal (numbered_tests tests_of_derivation m c.derivations
      ++ meets_dual ∷ []) one.1) in
      let s = solutions_of below one.0 in
      record {
        solutions = λ k d h. (s k d h).0;
        solutions_fit = λ k d h. (s k d h).1;
        steps = steps_of two.0;
        primal = All-head (Passes P c) meets_primal
            (numbered_tests tests_of_derivation m c.derivations ++ meets_dual ∷ []) one.1;
        dual = All-head (Passes P c) meets_dual [] two.1;
      }

  pub tests_of_proof : IsProof P c → All (Passes P c) (proof_tests c)
  tests_of_proof p =
      All-append (Passes P c) (numbered_tests (tests_of_solution c.problem) 0 c.solutions)
      (meets_primal ∷ (numbered_tests tests_of_derivation m c.derivations ++ meets_dual ∷ []))
      (of_solutions p.solutions p.solutions_fit)
      (All-cons (Passes P c) meets_primal (numbered_tests tests_of_derivation m c.derivations
      ++ meets_dual ∷ []) p.primal
      (All-append (Passes P c) (numbered_tests tests_of_derivation m c.derivations) (meets_dual ∷ []) (of_steps p.steps)
      (All-cons (Passes P c) meets_dual [] p.dual (All-nil (Passes P c)))))
