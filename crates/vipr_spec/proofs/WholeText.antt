-- A text is verified exactly where it is read as a proof
use Rattle.std.proofs.Common.{◌≡◌, ℕ, ◌<◌, zero, suc, List, [], ◌∷◌, ◌++◌, length, Option, Some}
use Rattle.std.proofs.Common.{None, Result, Ok, Err, All, Contains, refl, sym, ◌∙◌, ap, subst}
use Rattle.std.proofs.Common.{zero-lt-suc, arith}
use Rattle.std.specs.Prelude.{◌↔◌}
use Rattle.std.proofs.lemmas.List.Elements.{All-contains, Contains-append_right}
use Rattle.vipr_spec.specs.{Profile, IsInteger, Row, Named, Problem, variables, Derivation, IsProof}
use Rattle.vipr_spec.specs.{Rest, Fault, Read, ◌>>=◌, read_each, problem_read, solution_read}
use Rattle.vipr_spec.specs.{derivations_read, derivation_read, end_read, certificate_read}
use Rattle.vipr_spec.specs.{whole_text, FirstFailing, Test, spelled, meets_primal, meets_dual}
use Rattle.vipr_spec.specs.{Passes, numbered_tests, tests_of_solution, tests_of_derivation}
use Rattle.vipr_spec.specs.{before_items, items_read, Found, last_tests, derivations_found}
use Rattle.vipr_spec.specs.{ending_found, problem_found, found_in, Report, Reports, Answer}
use Rattle.vipr_spec.specs.{verified, IsAnswerOfTest, IsAnswer}
use Rattle.vipr_spec.specs.{Certificate.Certificate, Grammar.Spells}
use Rattle.vipr_spec.proofs.FirstFailing.{none_all, all_none, failing_unique}
use Rattle.vipr_spec.proofs.AllTests.{proof_of_tests, tests_of_proof}
use Rattle.vipr_spec.proofs.GrammarWhole.{reads_texts, integers_read_below}
use Rattle.vipr_spec.proofs.Reported.{known_not_verified}

-- ---- reading all items, and reading them up to a fault

abbrev pub ended : {A : Type 0} → List A → Result Rest Fault → Read (List A)
ended xs (Ok s) = Ok (xs, s)
ended xs (Err f) = Err f

more_ended : {A : Type 0} (x : A) (xs : List A) (e : Result Rest Fault)
    → (ended xs e >>= λ ys. Ok (x ∷ ys.0, ys.1)) ≡ ended (x ∷ xs) e
more_ended x xs e = grind arith

pub repeated_is : {A : Type 0} (item : Rest → Read A) (n : ℕ) (r : Rest)
    → read_each item n r ≡ ended (items_read item n r).0 (items_read item n r).1
unfolding read_each items_read
repeated_is item zero r = refl
repeated_is {A} item (suc n) r = by (λ s. repeated_is item n s) (item r)
  where
    by : ((s : Rest) → read_each item n s ≡ ended (items_read item n s).0 (items_read item n s).1)
        → (y : Read A) → (y >>= λ x. read_each item n x.1 >>= λ xs. Ok (x.0 ∷ xs.0, xs.1)) ≡ ended
        (before_items (items_read item n) y).0 (before_items (items_read item n) y).1
    by others (Err f) = refl
    by others (Ok x) = ap (λ z. z >>= λ xs. Ok (x.0 ∷ xs.0, xs.1)) (others x.1) ∙ more_ended x.0 _ _

-- ---- what was found, where the text was read to its end

abbrev pub opening_tests : Problem → List (Named Row) → List Test
opening_tests p ss = numbered_tests (tests_of_solution p) 0 ss

abbrev pub all_tests : Certificate → List Test
all_tests c = opening_tests c.problem c.solutions
    ++ (meets_primal
    ∷ (numbered_tests tests_of_derivation (length c.problem.constraints) c.derivations
    ++ (meets_dual ∷ [])))

-- either the whole was read, or the fault is among the tests
abbrev pub Whole : Found → Result Certificate Fault → Type 0
Whole found (Ok c) = found ≡ record { certificate = c; tests = all_tests c }
Whole found (Err f) = Contains found.tests (spelled f)

last_one : {A : Type 0} (x : A) → Contains (x ∷ []) x
last_one x = (0, zero-lt-suc 0, refl)

after_one : {A : Type 0} (x y : A) (ys : List A) → Contains ys x → Contains (y ∷ ys) x
after_one x y ys h = Contains-append_right (y ∷ []) ys x h

module _ (p : Problem) (ss : List (Named Row)) where
  at_end_whole : (ds : List Derivation) (x : Result (Unit {0}) Fault)
      → Whole (record {
        certificate = record { problem = p; solutions = ss; derivations = ds };
        tests = opening_tests p ss
            ++ (meets_primal
            ∷ (numbered_tests tests_of_derivation (length p.constraints) ds ++ last_tests x));
      }) (x >>= λ end. Ok (record { problem = p; solutions = ss; derivations = ds }))
  at_end_whole ds (Ok done) = refl
  at_end_whole ds (Err f) = Contains-append_right (opening_tests p ss) _ _
      (after_one _ _ _
      (Contains-append_right (numbered_tests tests_of_derivation (length p.constraints) ds) _ _
      (last_one (spelled f))))

  derivations_whole : (ds : List Derivation) (x : Result Rest Fault)
      → Whole (record {
        certificate = record { problem = p; solutions = ss; derivations = ds };
        tests = opening_tests p ss
            ++ (meets_primal
            ∷ (numbered_tests tests_of_derivation (length p.constraints) ds
            ++ last_tests (x >>= end_read)));
      }) (ended ds x >>= λ d. end_read d.1 >>= λ end. Ok (record { problem = p; solutions = ss; derivations = d.0 }))
  derivations_whole ds (Ok s) = at_end_whole ds (end_read s)
  derivations_whole ds (Err f) = at_end_whole ds (Err f)

  count_whole : (x : Result (ℕ × Rest) Fault)
      → Whole (record {
        certificate = record { problem = p; solutions = ss; derivations = (derivations_found p x).0 };
        tests = opening_tests p ss ++ (meets_primal ∷ (derivations_found p x).1);
      }) (x >>= λ d. read_each (derivation_read p) d.0 d.1 >>= λ ds. end_read ds.1 >>= λ end.
      Ok (record { problem = p; solutions = ss; derivations = ds.0 }))
  count_whole (Err f) = Contains-append_right (opening_tests p ss) (meets_primal ∷ spelled f ∷ [])
      (spelled f) (after_one (spelled f) meets_primal (spelled f ∷ []) (last_one (spelled f)))
  count_whole (Ok d) = grind (arith, repeated_is, derivations_whole)

solutions_whole : (p : Problem) (ss : List (Named Row)) (x : Result Rest Fault)
    → Whole (record {
      certificate = record { problem = p; solutions = ss; derivations = (ending_found p x).0 };
      tests = opening_tests p ss ++ (ending_found p x).1;
    }) (ended ss x >>= λ s. derivations_read p s.1 >>= λ d. read_each (derivation_read p) d.0 d.1
    >>= λ ds. end_read ds.1
    >>= λ end. Ok (record { problem = p; solutions = s.0; derivations = ds.0 }))
solutions_whole p ss (Ok s) = count_whole p ss (derivations_read p s)
solutions_whole p ss (Err f) = Contains-append_right (opening_tests p ss) _ _ (last_one (spelled f))

pub whole_read : (r : Rest) → Whole (found_in r) (certificate_read r)
unfolding found_in certificate_read
whole_read r = by (problem_read r)
  where
    by : (x : Read (Problem × ℕ))
        → Whole (problem_found x) (x >>= λ p. read_each (solution_read p.0.0) p.0.1 p.1 >>= λ s.
        derivations_read p.0.0 s.1 >>= λ d. read_each (derivation_read p.0.0) d.0 d.1
        >>= λ ds. end_read ds.1 >>= λ end. Ok (record { problem = p.0.0; solutions = s.0; derivations = ds.0 }))
    by (Err f) = last_one (spelled f)
    by (Ok p) =
        let items = items_read (solution_read p.0.0) p.0.1 p.1 in
        subst (λ z. Whole (problem_found (Ok p))
        (z >>= λ s. derivations_read p.0.0 s.1 >>= λ d. read_each (derivation_read p.0.0) d.0
        d.1
        >>= λ ds. end_read ds.1 >>= λ end.
        Ok (record { problem = p.0.0; solutions = s.0; derivations = ds.0 })))
        (sym (repeated_is (solution_read p.0.0) p.0.1 p.1))
        (solutions_whole p.0.0 items.0 items.1)

found_as : (found : Found) (x : Result Certificate Fault) (c : Certificate) → Whole found x
    → x ≡ Ok c → found.certificate ≡ c
found_as found x c w e = grind arith

-- where a text is read as a certificate, it is the one that was found
pub found_read : (r : Rest) (c : Certificate) → certificate_read r ≡ Ok c
    → (found_in r).certificate ≡ c
found_read r c e = found_as (found_in r) (certificate_read r) c (whole_read r) e

-- ---- verified

module _ (P : Profile) where
  abbrev IsVerified : Result Certificate Fault → Report → Type 0
  IsVerified x report = (c : Certificate) × (x ≡ Ok c) × IsProof P c × Reports P c report

  all_passed : (r : Rest) (report : Report) → IsAnswer P r (verified report)
      → All (Passes P (found_in r).certificate) (found_in r).tests
      × Reports P (found_in r).certificate report
  all_passed r report h = by h.0 h.1 h.2
    where
      by : (f : Option Test) → FirstFailing (Passes P (found_in r).certificate) (found_in r).tests f
          → IsAnswerOfTest P (found_in r).certificate f (verified report)
          → All (Passes P (found_in r).certificate) (found_in r).tests
          × Reports P (found_in r).certificate report
      by None p q = (
        none_all (Passes P (found_in r).certificate) (found_in r).tests p,
        (let e : q.0 ≡ report = cc q.2 in subst (Reports P (found_in r).certificate) e q.1),
      )
      by (Some t) p q = absurd (known_not_verified t report (sym q))

  verified_out : (found : Found) (x : Result Certificate Fault) (report : Report)
      → ((c : Certificate) → x ≡ Ok c → (j : ℕ) → IsInteger c.problem.integers j
      → j < variables c.problem) → Whole found x → All (Passes P found.certificate) found.tests
      → Reports P found.certificate report → IsVerified x report
  verified_out found (Err f) report below w a s =
      absurd (All-contains (Passes P found.certificate) found.tests (spelled f) a w)
  verified_out found (Ok c) report below w a s =
      let b = subst (λ g. All (Passes P g.certificate) g.tests) w a in
      (c, refl, proof_of_tests P c (below c refl) b, subst (λ g. Reports P g.certificate report) w s)

  verified_in : (found : Found) (x : Result Certificate Fault) (report : Report) → Whole found x
      → IsVerified x report → (FirstFailing (Passes P found.certificate) found.tests None)
      × Reports P found.certificate report
  verified_in found (Err f) report w v = absurd (cc v.1)
  verified_in found (Ok d) report w v =
      let e : v.0 ≡ d = cc v.1 in
      let c = v.0 in
      let g : found ≡ record { certificate = c; tests = all_tests c } = w
      ∙ ap (λ c. record { certificate = c; tests = all_tests c }) (sym e) in
      subst (λ g. (FirstFailing (Passes P g.certificate) g.tests None)
      × Reports P g.certificate report) (sym g)
      (all_none (Passes P c) (all_tests c) (tests_of_proof P c v.2), v.3)

  pub verified_read : (r : Rest) (report : Report) → IsAnswer P r (verified report)
      ↔ IsVerified (certificate_read r) report
  verified_read r report = (
    λ h. let a = all_passed r report h in
        verified_out (found_in r) (certificate_read r) report (integers_read_below r) (whole_read r) a.0 a.1,
    λ v. let a = verified_in (found_in r) (certificate_read r) report (whole_read r) v in
        (None, a.0, (report, a.1, refl)),
  )

  pub verified_text : (bytes : List ℕ) (report : Report)
      → IsAnswer P (whole_text bytes) (verified report)
      ↔ ((c : Certificate) × Spells bytes c × IsProof P c × Reports P c report)
  verified_text bytes report = (
    λ h. let v = (verified_read (whole_text bytes) report).0 h in (v.0, (reads_texts bytes v.0).0 v.1, v.2, v.3),
    λ v. (verified_read (whole_text bytes) report).1 (v.0, (reads_texts bytes v.0).1 v.1, v.2, v.3),
  )

  -- whatever is answered for a text that is read as a proof, it is verified
  pub proof_answered : (r : Rest) (c : Certificate) (a : Answer) → certificate_read r ≡ Ok c
      → IsProof P c → IsAnswer P r a → (report : Report) × Reports P c report
      × (a ≡ verified report)
  proof_answered r c a e p h = by (found_in r) (certificate_read r) (whole_read r) e h.0 h.1 h.2
    where
      by : (found : Found) (x : Result Certificate Fault) → Whole found x → x ≡ Ok c
          → (f : Option Test) → FirstFailing (Passes P found.certificate) found.tests f
          → IsAnswerOfTest P found.certificate f a → (report : Report) × Reports P c report
          × (a ≡ verified report)
      by found (Err f) w x t g known = absurd (cc x)
      by found (Ok d) w x t g known =
          let same : d ≡ c = cc x in
          let is : found ≡ record { certificate = c; tests = all_tests c } = w
          ∙ ap (λ c. record { certificate = c; tests = all_tests c }) same in
          let none = all_none (Passes P c) (all_tests c) (tests_of_proof P c p) in
          let first = subst (λ f. FirstFailing (Passes P f.certificate) f.tests t) is g in
          subst (λ f. IsAnswerOfTest P c f a)
          (failing_unique (Passes P c) (all_tests c) t None first none)
          (subst (λ f. IsAnswerOfTest P f.certificate t a) is known)
