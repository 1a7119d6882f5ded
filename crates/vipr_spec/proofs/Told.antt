-- What remains of a text, item by item, whatever the first test that fails tells of the certificate
use Rattle.std.proofs.Common.{◌≡◌, ℕ, suc, ◌+◌, List, [], ◌∷◌, ◌++◌, length, Option, Some, None}
use Rattle.std.proofs.Common.{Result, Ok, Err, arith, refl, sym, ◌∙◌, ap, ap₂, subst, append_assoc}
use Rattle.std.proofs.Common.{append-nil, inl, inr}
use Rattle.std.specs.Prelude.{◌↔◌}
use Rattle.std.proofs.lemmas.List.{length-append}
use Rattle.vipr_spec.specs.{Profile, Row, condition, Named, Problem, Derivation, MeetsPrimal, count}
use Rattle.vipr_spec.specs.{Rest, Fault, ◌>>=◌, problem_read, solution_read, derivations_read}
use Rattle.vipr_spec.specs.{derivation_read, end_read, with_more, with_next, StepTest, PassesStep}
use Rattle.vipr_spec.specs.{step_tests, FirstFailing, SolutionTest, PassesSolution, solution_tests}
use Rattle.vipr_spec.specs.{of_solution, Test, spelled, meets_primal, of_step, meets_dual, Passes}
use Rattle.vipr_spec.specs.{numbered_tests, tests_of_solution, tests_of_derivation}
use Rattle.vipr_spec.specs.{items_read, Found, last_tests, derivations_found, ending_found}
use Rattle.vipr_spec.specs.{problem_found, found_in, Answer, IsAnswerOfTest, derivations_from}
use Rattle.vipr_spec.specs.{solutions_from, Certificate.Certificate}
use Rattle.vipr_spec.proofs.FirstFailing.{failing_unique, failing_first, failing_second}
use Rattle.vipr_spec.proofs.FirstFailing.{failing_after, failing_map}
use Rattle.vipr_spec.proofs.{Prefix.count_next, Prefix.more_next, Steps.tests_next}

-- the first test that fails, if any, tells this of the certificate
abbrev pub Told : Profile → (Certificate → Option Test → Type 0) → Found → Type 0
Told P Q f = (failing : Option Test) × FirstFailing (Passes P f.certificate) f.tests failing × Q f.certificate failing

-- it is the answer
abbrev pub answers : Profile → Answer → Certificate → Option Test → Type 0
answers P a c failing = IsAnswerOfTest P c failing a

-- ---- what was found, item by item

pub derivation_next : (c : Certificate) (n : ℕ) (r : Rest) (d : Derivation) (s : Rest)
    → derivation_read c.problem r ≡ Ok (d, s)
    → derivations_from c (suc n) r
    ≡ (let items = items_read (derivation_read c.problem) n s in record {
      certificate = with_more c (d ∷ items.0);
      tests = tests_of_derivation (count c) d ++
          (numbered_tests tests_of_derivation (suc (count c)) items.0
          ++ last_tests (items.1 >>= end_read));
    })
unfolding items_read numbered_tests
derivation_next c n r d s e = grind (arith, append_assoc)

pub derivation_then : (c : Certificate) (n : ℕ) (d : Derivation) (s : Rest)
    → (let items = items_read (derivation_read c.problem) n s in record {
      certificate = with_more c (d ∷ items.0);
      tests = numbered_tests tests_of_derivation (suc (count c)) items.0
          ++ last_tests (items.1 >>= end_read);
    }) ≡ derivations_from (with_next c d) n s
derivation_then c n d s = grind (arith, more_next, count_next)

pub at_the_end : (c : Certificate) (r : Rest)
    → derivations_from c 0 r ≡ record { certificate = c; tests = last_tests (end_read r) }
unfolding items_read numbered_tests
at_the_end c r =
    ap (λ l. record { certificate = record c { derivations = l }; tests = last_tests (end_read r) })
    (append-nil c.derivations)

pub solution_next : (p : Problem) (ss : List (Named Row)) (n : ℕ) (r : Rest) (s : Named Row)
    (t : Rest) → solution_read p r ≡ Ok (s, t)
    → solutions_from p ss (suc n) r ≡ (let items = items_read (solution_read p) n t in
    let ending = ending_found p items.1 in record {
      certificate = record { problem = p; solutions = ss ++ s ∷ items.0; derivations = ending.0 };
      tests = tests_of_solution p (length ss) s
          ++ (numbered_tests (tests_of_solution p) (suc (length ss)) items.0 ++ ending.1);
    })
unfolding items_read numbered_tests
solution_next p ss n r s t e = grind (arith, append_assoc)

pub solution_then : (p : Problem) (ss : List (Named Row)) (n : ℕ) (s : Named Row) (t : Rest)
    → (let items = items_read (solution_read p) n t in let ending = ending_found p items.1 in
    record {
      certificate = record { problem = p; solutions = ss ++ s ∷ items.0; derivations = ending.0 };
      tests = numbered_tests (tests_of_solution p) (suc (length ss)) items.0 ++ ending.1;
    }) ≡ solutions_from p (ss ++ s ∷ []) n t
solution_then p ss n s t = grind (arith, append_assoc, length-append)

pub no_more_solutions : (p : Problem) (ss : List (Named Row)) (r : Rest)
    (x : Result (ℕ × Rest) Fault) → derivations_read p r ≡ x
    → solutions_from p ss 0 r ≡ (let found = derivations_found p x in
    record {
      certificate = record { problem = p; solutions = ss; derivations = found.0 };
      tests = meets_primal ∷ found.1;
    })
unfolding items_read numbered_tests
no_more_solutions p ss r x e = ap₂ (λ l y. let found = derivations_found p y in
    record {
      certificate = record { problem = p; solutions = l; derivations = found.0 };
      tests = meets_primal ∷ found.1;
    }) (append-nil ss) e

module _ (P : Profile) (Q : Certificate → Option Test → Type 0) where
  abbrev Says : Found → Type 0
  Says = Told P Q

  -- ---- tests that pass, and a test that fails

  passed : (c : Certificate) (ts us : List Test) → FirstFailing (Passes P c) ts None
      → Says (record { certificate = c; tests = ts ++ us })
      ↔ Says (record { certificate = c; tests = us })
  passed c ts us n = grind (arith, failing_after, failing_second)

  failed : (c : Certificate) (ts us : List Test) (t : Test) → FirstFailing (Passes P c) ts (Some t)
      → Says (record { certificate = c; tests = ts ++ us }) ↔ Q c (Some t)
  failed c ts us t n = grind (arith, failing_first (Passes P c) ts us t n, failing_unique)

  failed_now : (c : Certificate) (us : List Test) (t : Test) → ¬ Passes P c t
      → Says (record { certificate = c; tests = t ∷ us }) ↔ Q c (Some t)
  failed_now c us t n = failed c (t ∷ []) us t (inr (n, refl))

  passed_now : (c : Certificate) (us : List Test) (t : Test) → Passes P c t
      → Says (record { certificate = c; tests = t ∷ us })
      ↔ Says (record { certificate = c; tests = us })
  passed_now c us t p = passed c (t ∷ []) us (inl (p, refl))

  moved_first : (f g : Found) (t : Test) → f ≡ g → Says g ↔ Q g.certificate (Some t) → Says f ↔ Q f.certificate (Some t)
  moved_first f g t e h = subst (λ x. Says x ↔ Q x.certificate (Some t)) (sym e) h

  moved : (f g : Found) (A : Type 0) → f ≡ g → Says g ↔ A → Says f ↔ A
  moved f g A e h = subst (λ x. Says x ↔ A) (sym e) h

  -- ---- the next derivation

  pub derivation_passes : (c : Certificate) (n : ℕ) (r : Rest) (d : Derivation) (s : Rest)
      → derivation_read c.problem r ≡ Ok (d, s) → FirstFailing (PassesStep P c (condition d.stated))
      (step_tests d.reason) None
      → Says (derivations_from c (suc n) r) ↔ Says (derivations_from (with_next c d) n s)
  derivation_passes c n r d s e h =
      let items = items_read (derivation_read c.problem) n s in
      moved _ _ _ (derivation_next c n r d s e) (subst (λ x. Says (record {
        certificate = with_more c (d ∷ items.0);
        tests = tests_of_derivation (count c) d
            ++ (numbered_tests tests_of_derivation (suc (count c)) items.0
            ++ last_tests (items.1 >>= end_read));
      }) ↔ Says x) (derivation_then c n d s) (passed _ _ _
      (failing_map (of_step (count c)) (Passes P (with_more c (d ∷ items.0))) (step_tests d.reason)
      None ((tests_next P c d items.0 None).1 h))))

  pub derivation_fails : (c : Certificate) (n : ℕ) (r : Rest) (d : Derivation) (s : Rest)
      (t : StepTest) → derivation_read c.problem r ≡ Ok (d, s)
      → FirstFailing (PassesStep P c (condition d.stated)) (step_tests d.reason) (Some t)
      → Says (derivations_from c (suc n) r) ↔ Q (derivations_from c (suc n) r).certificate (Some (of_step (count c) t))
  derivation_fails c n r d s t e h =
      let items = items_read (derivation_read c.problem) n s in
      moved_first _ _ _ (derivation_next c n r d s e) (failed _ _ _ (of_step (count c) t)
      (failing_map (of_step (count c)) (Passes P (with_more c (d ∷ items.0))) (step_tests d.reason)
      (Some t) ((tests_next P c d items.0 (Some t)).1 h)))

  pub derivation_fault : (c : Certificate) (n : ℕ) (r : Rest) (f : Fault)
      → derivation_read c.problem r ≡ Err f → Says (derivations_from c (suc n) r)
      ↔ Q (derivations_from c (suc n) r).certificate (Some (spelled f))
  unfolding items_read numbered_tests
  derivation_fault c n r f e = grind (arith, moved_first, failed_now)

  -- ---- the end

  pub end_fault : (c : Certificate) (r : Rest) (f : Fault) → end_read r ≡ Err f
      → Says (derivations_from c 0 r) ↔ Q (derivations_from c 0 r).certificate (Some (spelled f))
  end_fault c r f e =
      moved_first _ _ _
      (at_the_end c r ∙ ap (λ x. record { certificate = c; tests = last_tests x }) e)
      (failed_now c [] (spelled f) (λ h. h))

  pub end_unproved : (c : Certificate) (r : Rest) → end_read r ≡ Ok tt → ¬ Passes P c meets_dual
      → Says (derivations_from c 0 r) ↔ Q (derivations_from c 0 r).certificate (Some meets_dual)
  end_unproved c r e n =
      moved_first _ _ _
      (at_the_end c r ∙ ap (λ x. record { certificate = c; tests = last_tests x }) e)
      (failed_now c [] meets_dual n)

  pub end_verified : (c : Certificate) (r : Rest) → end_read r ≡ Ok tt → Passes P c meets_dual
      → Says (derivations_from c 0 r) ↔ Q c None
  end_verified c r e p = grind (arith, at_the_end c r)

  -- ---- the solutions

  pub solution_fault : (p : Problem) (ss : List (Named Row)) (n : ℕ) (r : Rest) (f : Fault)
      → solution_read p r ≡ Err f → Says (solutions_from p ss (suc n) r)
      ↔ Q (solutions_from p ss (suc n) r).certificate (Some (spelled f))
  unfolding items_read numbered_tests
  solution_fault p ss n r f e = grind (arith, moved_first, failed_now)

  pub solution_passes : (p : Problem) (ss : List (Named Row)) (n : ℕ) (r : Rest) (s : Named Row)
      (t : Rest) → solution_read p r ≡ Ok (s, t)
      → FirstFailing (PassesSolution p s.item) (solution_tests p) None
      → Says (solutions_from p ss (suc n) r) ↔ Says (solutions_from p (ss ++ s ∷ []) n t)
  solution_passes p ss n r s t e h =
      let items = items_read (solution_read p) n t in let ending = ending_found p items.1 in
      let c : Certificate = record { problem = p; solutions = ss ++ s ∷ items.0; derivations = ending.0 } in
      moved _ _ _ (solution_next p ss n r s t e) (subst (λ x. Says (record {
        certificate = c;
        tests = tests_of_solution p (length ss) s
            ++ (numbered_tests (tests_of_solution p) (suc (length ss)) items.0 ++ ending.1);
      }) ↔ Says x) (solution_then p ss n s t)
      (passed _ _ _
      (failing_map (of_solution (length ss) s.item) (Passes P c) (solution_tests p) None h)))

  pub solution_fails : (p : Problem) (ss : List (Named Row)) (n : ℕ) (r : Rest) (s : Named Row)
      (t : Rest) (x : SolutionTest) → solution_read p r ≡ Ok (s, t)
      → FirstFailing (PassesSolution p s.item) (solution_tests p) (Some x)
      → Says (solutions_from p ss (suc n) r) ↔ Q (solutions_from p ss (suc n) r).certificate
      (Some (of_solution (length ss) s.item x))
  solution_fails p ss n r s t x e h =
      let items = items_read (solution_read p) n t in let ending = ending_found p items.1 in
      let c : Certificate = record { problem = p; solutions = ss ++ s ∷ items.0; derivations = ending.0 } in
      moved_first _ _ _ (solution_next p ss n r s t e)
      (failed _ _ _ (of_solution (length ss) s.item x)
      (failing_map (of_solution (length ss) s.item) (Passes P c) (solution_tests p) (Some x) h))

  -- ---- the end of the solutions

  pub solutions_unmet : (p : Problem) (ss : List (Named Row)) (r : Rest)
      → ¬ MeetsPrimal p ss p.claim → Says (solutions_from p ss 0 r)
      ↔ Q (solutions_from p ss 0 r).certificate (Some meets_primal)
  solutions_unmet p ss r n =
      moved_first _ _ _ (no_more_solutions p ss r (derivations_read p r) refl)
      (failed_now _ _ meets_primal n)

  pub derivations_fault : (p : Problem) (ss : List (Named Row)) (r : Rest) (f : Fault)
      → MeetsPrimal p ss p.claim → derivations_read p r ≡ Err f → Says (solutions_from p ss 0 r)
      ↔ Q (solutions_from p ss 0 r).certificate (Some (spelled f))
  derivations_fault p ss r f m e = grind (arith, moved_first, no_more_solutions, failed)

  pub derivations_begin : (p : Problem) (ss : List (Named Row)) (r : Rest) (n : ℕ) (s : Rest)
      → MeetsPrimal p ss p.claim → derivations_read p r ≡ Ok (n, s)
      → Says (solutions_from p ss 0 r)
      ↔ Says (derivations_from (record { problem = p; solutions = ss; derivations = [] }) n s)
  derivations_begin p ss r n s m e =
      let items = items_read (derivation_read p) n s in
      let k : length p.constraints ≡ length p.constraints + 0 = omega arith in
      moved _ _ _ (no_more_solutions p ss r (Ok (n, s)) e)
      (subst (λ i.
      Says (record {
        certificate =
            record { problem = p; solutions = ss; derivations = items.0 };
        tests = meets_primal ∷ (numbered_tests tests_of_derivation (length p.constraints) items.0
            ++ last_tests (items.1 >>= end_read));
      })
      ↔ Says (record {
        certificate = record { problem = p; solutions = ss; derivations = items.0 };
        tests = numbered_tests tests_of_derivation i items.0
            ++ last_tests (items.1 >>= end_read);
      })) k
      (passed_now _ _ meets_primal m))

  -- ---- the problem

  pub problem_fault : (r : Rest) (f : Fault) → problem_read r ≡ Err f
      → Says (found_in r) ↔ Q (found_in r).certificate (Some (spelled f))
  unfolding found_in
  problem_fault r f e = moved_first _ _ _ (ap problem_found e) (failed_now _ [] (spelled f) (λ h. h))

  pub problem_ok : (r : Rest) (p : Problem) (n : ℕ) (s : Rest) → problem_read r ≡ Ok ((p, n), s)
      → Says (found_in r) ↔ Says (solutions_from p [] n s)
  unfolding found_in
  problem_ok r p n s e = moved _ _ _ (ap problem_found e) (λ h. h, λ h. h)
