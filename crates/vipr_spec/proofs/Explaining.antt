-- The answer with its detail for what remains of a text, item by item
use Rattle.std.proofs.Common.{◌≡◌, ℕ, suc, List, [], ◌∷◌, ◌++◌, length, Option, Some, None, Ok, Err}
use Rattle.std.proofs.Common.{refl, ◌∙◌, ap, arith}
use Rattle.std.specs.Prelude.{◌↔◌}
use Rattle.vipr_spec.specs.{ℚ, Profile, Row, condition, Named, Problem, Derivation}
use Rattle.vipr_spec.specs.{MeetsPrimal, count, Rest, Fault, problem_read, solution_read}
use Rattle.vipr_spec.specs.{derivations_read, derivation_read, end_read, with_more, with_next}
use Rattle.vipr_spec.specs.{StepTest, PassesStep, step_tests, FirstFailing, StepDetail, Shows}
use Rattle.vipr_spec.specs.{SolutionTest, PassesSolution, solution_tests, of_solution, Test}
use Rattle.vipr_spec.specs.{spelled, meets_primal, of_step, meets_dual, Passes, Detail, none, step}
use Rattle.vipr_spec.specs.{no_proof, no_primal, name_at, names_of, solution_detail, goal_needed_by}
use Rattle.vipr_spec.specs.{finite_primal, Explains, items_read, Found, Report, Reports, Answer}
use Rattle.vipr_spec.specs.{verified, answer_of_test, IsExplainedBy, Explained, IsExplained}
use Rattle.vipr_spec.specs.{derivations_from, solutions_from, Certificate.Certificate}
use Rattle.vipr_spec.proofs.{Prefix.before_more, Prefix.known_next, Steps.same_type}
use Rattle.vipr_spec.proofs.Told as known

then : {A B C : Type 0} → A ↔ B → B ↔ C → A ↔ C
then f g = (λ a. g.0 (f.0 a), λ c. f.1 (g.1 c))

beside : {A B C : Type 0} → B ↔ C → (A × B) ↔ (A × C)
beside f = (λ h. (h.0, f.0 h.1), λ h. (h.0, f.1 h.1))

-- ---- what is shown of the item that comes next

name_here : (ss : List (Named Row)) (s : Named Row) (more : List (Named Row))
    → name_at (names_of (ss ++ s ∷ more)) (length ss) ≡ s.name
name_here [] s more = refl
name_here (x ∷ ss) s more = name_here ss s more

next_shown : (c : Certificate) (d : Derivation) (ds : List Derivation) (t : StepTest) (x : Detail)
    → Explains (with_more c (d ∷ ds)) (of_step (count c) t) x
    ↔ ((what : StepDetail) × Shows c (condition d.stated) t what × (x ≡ step d.name what))
next_shown c d ds t x = grind (arith, same_type, before_more, known_next)

module _ (P : Profile) (a : Answer) (x : Detail) where
  abbrev Says : Certificate → Option Test → Type 0
  Says c t = IsExplainedBy P c t a x

  pub problem_fault : (r : Rest) (f : Fault) → problem_read r ≡ Err f → IsExplained P r a x
      ↔ ((a ≡ answer_of_test (spelled f)) × (x ≡ none))
  problem_fault r f e = known.problem_fault P Says r f e

  pub problem_ok : (r : Rest) (p : Problem) (n : ℕ) (s : Rest) → problem_read r ≡ Ok ((p, n), s)
      → IsExplained P r a x ↔ Explained P (solutions_from p [] n s) a x
  problem_ok r p n s e = known.problem_ok P Says r p n s e

  pub solution_fault : (p : Problem) (ss : List (Named Row)) (n : ℕ) (r : Rest) (f : Fault)
      → solution_read p r ≡ Err f → Explained P (solutions_from p ss (suc n) r) a x
      ↔ ((a ≡ answer_of_test (spelled f)) × (x ≡ none))
  solution_fault p ss n r f e = known.solution_fault P Says p ss n r f e

  pub solution_passes : (p : Problem) (ss : List (Named Row)) (n : ℕ) (r : Rest) (s : Named Row)
      (t : Rest) → solution_read p r ≡ Ok (s, t)
      → FirstFailing (PassesSolution p s.item) (solution_tests p) None
      → Explained P (solutions_from p ss (suc n) r) a x ↔ Explained P (solutions_from p (ss ++ s ∷ []) n t) a x
  solution_passes p ss n r s t e h = known.solution_passes P Says p ss n r s t e h

  pub solution_fails : (p : Problem) (ss : List (Named Row)) (n : ℕ) (r : Rest) (s : Named Row)
      (t : Rest) (y : SolutionTest) → solution_read p r ≡ Ok (s, t)
      → FirstFailing (PassesSolution p s.item) (solution_tests p) (Some y)
      → Explained P (solutions_from p ss (suc n) r) a x
      ↔ ((a ≡ answer_of_test (of_solution (length ss) s.item y))
      × (x ≡ solution_detail p s.name s.item y))
  solution_fails p ss n r s t y e h = then (known.solution_fails P Says p ss n r s t y e h)
      (beside (same_type
      (ap (λ (ts : List (Named Row)). x ≡ solution_detail p (name_at (names_of ts) (length ss))
      s.item y) solutions
      ∙ ap (λ name. x ≡ solution_detail p name s.item y) (name_here ss s _))))
    where
      solutions : (solutions_from p ss (suc n) r).certificate.solutions ≡ ss ++ s ∷ (items_read (solution_read p) n t).0
      solutions = ap (λ (f : Found). f.certificate.solutions) (known.solution_next p ss n r s t e)

  pub solutions_unmet : (p : Problem) (ss : List (Named Row)) (r : Rest) → ¬ MeetsPrimal p ss p.claim
      → Explained P (solutions_from p ss 0 r) a x
      ↔ ((a ≡ answer_of_test meets_primal)
      × ((bound : ℚ) × (finite_primal p p.claim ≡ Some bound) × (x ≡ no_primal bound)))
  solutions_unmet p ss r n = known.solutions_unmet P Says p ss r n

  pub derivations_fault : (p : Problem) (ss : List (Named Row)) (r : Rest) (f : Fault)
      → MeetsPrimal p ss p.claim → derivations_read p r ≡ Err f
      → Explained P (solutions_from p ss 0 r) a x ↔ ((a ≡ answer_of_test (spelled f)) × (x ≡ none))
  derivations_fault p ss r f m e = known.derivations_fault P Says p ss r f m e

  pub derivations_begin : (p : Problem) (ss : List (Named Row)) (r : Rest) (n : ℕ) (s : Rest)
      → MeetsPrimal p ss p.claim → derivations_read p r ≡ Ok (n, s)
      → Explained P (solutions_from p ss 0 r) a x
      ↔ Explained P
      (derivations_from (record { problem = p; solutions = ss; derivations = [] }) n s) a x
  derivations_begin p ss r n s m e = known.derivations_begin P Says p ss r n s m e

  pub derivation_fault : (c : Certificate) (n : ℕ) (r : Rest) (f : Fault)
      → derivation_read c.problem r ≡ Err f → Explained P (derivations_from c (suc n) r) a x
      ↔ ((a ≡ answer_of_test (spelled f)) × (x ≡ none))
  derivation_fault c n r f e = known.derivation_fault P Says c n r f e

  pub derivation_passes : (c : Certificate) (n : ℕ) (r : Rest) (d : Derivation) (s : Rest)
      → derivation_read c.problem r ≡ Ok (d, s) → FirstFailing (PassesStep P c (condition d.stated))
      (step_tests d.reason) None
      → Explained P (derivations_from c (suc n) r) a x ↔ Explained P (derivations_from (with_next c d) n s) a x
  derivation_passes c n r d s e h = known.derivation_passes P Says c n r d s e h

  pub derivation_fails : (c : Certificate) (n : ℕ) (r : Rest) (d : Derivation) (s : Rest)
      (t : StepTest) → derivation_read c.problem r ≡ Ok (d, s)
      → FirstFailing (PassesStep P c (condition d.stated)) (step_tests d.reason) (Some t)
      → Explained P (derivations_from c (suc n) r) a x
      ↔ ((a ≡ answer_of_test (of_step (count c) t))
      × ((what : StepDetail) × Shows c (condition d.stated) t what × (x ≡ step d.name what)))
  derivation_fails c n r d s t e h = then (known.derivation_fails P Says c n r d s t e h)
      (beside (then
      (same_type (ap (λ (f : Found). Explains f.certificate (of_step (count c) t) x)
      (known.derivation_next c n r d s e)))
      (next_shown c d (items_read (derivation_read c.problem) n s).0 t x)))

  pub end_fault : (c : Certificate) (r : Rest) (f : Fault) → end_read r ≡ Err f
      → Explained P (derivations_from c 0 r) a x ↔ ((a ≡ answer_of_test (spelled f)) × (x ≡ none))
  end_fault c r f e = known.end_fault P Says c r f e

  pub end_unproved : (c : Certificate) (r : Rest) → end_read r ≡ Ok tt → ¬ Passes P c meets_dual
      → Explained P (derivations_from c 0 r) a x
      ↔ ((a ≡ answer_of_test meets_dual)
      × (x ≡ no_proof (goal_needed_by c.problem c.problem.claim)))
  end_unproved c r e n = known.end_unproved P Says c r e n

  pub end_verified : (c : Certificate) (r : Rest) → end_read r ≡ Ok tt → Passes P c meets_dual
      → Explained P (derivations_from c 0 r) a x
      ↔ (((report : Report) × Reports P c report × (a ≡ verified report)) × (x ≡ none))
  end_verified c r e p = known.end_verified P Says c r e p
